-- What becomes of a packet to an address at a router, by the router's own routes (RFC 1812 5.2.4.3, RFC 1195 3.10; the form: own).
use Rattle.std.specs.Prelude.{ℕ, suc, ◌==◌, ◌-◌, ◌/◌, ◌^◌, nat_lt, Bool, List, [], ◌∷◌, map, slice_get, Option, Some, None, if◌then◌else◌}
use Rattle.std.specs.Option.{option_map}
use Rattle.isis_base.specs.declared.prefix.Prefix.{Prefix}
use Rattle.spf_tree.specs.Nodes.{system_node}
use Rattle.route_table.specs.declared.route.Route.{Route}
use Rattle.route_table.specs.Ranks.{rank_number}
use Rattle.route_table.specs.Lookups.{HasNone, IsLongest}
use Rattle.trace_core.specs.declared.step.Step.{Step}
use Rattle.trace_core.specs.declared.step.Step.TheVariants.{Home, On, Lost}
use Rattle.packet_trace.specs.declared.forwarder.Forwarder.{Forwarder}

-- ---- the longest prefix

-- the prefix has the address: both begin with the same bits, as many as the prefix is long (RFC 4632 3.1)
abbrev pub has_address : Prefix → ℕ → Bool
has_address prefix address =
    address / 2 ^ (32 - prefix.length) == prefix.address / 2 ^ (32 - prefix.length)

-- the route of the longer prefix, and of equals the first
abbrev pub longer : Route → Option Route → Option Route
longer route None = Some route
longer route (Some other) =
    if nat_lt route.prefix.length other.prefix.length then Some other else Some route

-- the route of the longest prefix that has the address (RFC 1812 5.2.4.3)
abbrev pub looked_up : List Route → ℕ → Option Route
looked_up [] address = None
looked_up (route ∷ routes) address =
    if has_address route.prefix address then longer route (looked_up routes address)
    else looked_up routes address

-- the same as a fact
abbrev pub IsLookedUp : List Route → ℕ → Option Route → Type 0
IsLookedUp routes address None = HasNone routes address
IsLookedUp routes address (Some route) = IsLongest routes address route

-- ---- the next router

-- the node that a router is, as a number
abbrev pub node_of : Forwarder → ℕ
node_of forwarder = system_node forwarder.system

-- the place of the first router that is this node
abbrev pub place_of : List ℕ → ℕ → Option ℕ
place_of [] node = None
place_of (first ∷ nodes) node =
    if first == node then Some 0 else option_map suc (place_of nodes node)

-- the packet goes on to a place, where there is one
abbrev pub step_to : Option ℕ → Step
step_to None = Lost
step_to (Some place) = On place

-- it is handed to the first next hop, where there is one
abbrev pub step_on : List ℕ → Option ℕ → Step
step_on nodes None = Lost
step_on nodes (Some hop) = step_to (place_of nodes hop)

-- it is at home where the route is the router's own, and lost where there is none
abbrev pub step_by : List ℕ → Option Route → Step
step_by nodes None = Lost
step_by nodes (Some route) =
    if rank_number route.rank == 0 then Home else step_on nodes (slice_get route.hops 0)

-- ---- at the router of a place

abbrev pub route_of : ℕ → Option Forwarder → Option Route
route_of address None = None
route_of address (Some forwarder) = looked_up forwarder.routes address

-- the route that it goes by there
abbrev pub route_at : List Forwarder → ℕ → ℕ → Option Route
route_at forwarders address place = route_of address (slice_get forwarders place)

-- what becomes of it there
abbrev pub step_at : List Forwarder → ℕ → ℕ → Step
step_at forwarders address place =
    step_by (map node_of forwarders) (route_at forwarders address place)

-- ---- whichever next hop is taken

-- one step for each next hop; where there is none the packet is lost
abbrev pub steps_on : List ℕ → List ℕ → List Step
steps_on nodes [] = Lost ∷ []
steps_on nodes (hop ∷ hops) = map (λ (h : ℕ). step_to (place_of nodes h)) (hop ∷ hops)

abbrev pub steps_by : List ℕ → Option Route → List Step
steps_by nodes None = Lost ∷ []
steps_by nodes (Some route) =
    if rank_number route.rank == 0 then Home ∷ [] else steps_on nodes route.hops

-- what may become of the packet at the router of a place
abbrev pub steps_at : List Forwarder → ℕ → ℕ → List Step
steps_at forwarders address place =
    steps_by (map node_of forwarders) (route_at forwarders address place)
