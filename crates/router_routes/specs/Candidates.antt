-- What prefixes may be reached by (RFC 5302 3.2): one's own, what the systems tell that a level
-- reaches, and the way by default to systems that are attached.
use Rattle.std.specs.Prelude.{ℕ, ◌+◌, ◌≤◌, ◌==◌, Bool, true, false, ◌&&◌, ◌||◌, not, List, [], ◌∷◌, ◌++◌, filter, map, Option, Some, None, if◌then◌else◌}
use Rattle.std.specs.List.{AllByRecursion, list_any, flat_map}
use Rattle.isis_base.specs.declared.identifiers.SystemId.{SystemId}
use Rattle.isis_base.specs.declared.identifiers.NodeId.{NodeId}
use Rattle.isis_base.specs.declared.identifiers.LspId.{LspId}
use Rattle.isis_base.specs.declared.level.Level.{Level}
use Rattle.isis_base.specs.declared.level.Level.TheVariants as level
use Rattle.isis_base.specs.declared.prefix.Prefix.{Prefix}
use Rattle.isis_base.specs.Prefixes.{prefix_from}
use Rattle.isis_tlv.specs.declared.prefix.PrefixItem.{PrefixItem}
use Rattle.lsp_store.specs.declared.entry.Entry.{Entry}
use Rattle.lsp_view.specs.Views.{own_node, lead_of, reach_in, areas_at, attached_at}
use Rattle.spf_tree.specs.Nodes.{node_number}
use Rattle.route_table.specs.declared.rank.Rank.{Rank}
use Rattle.route_table.specs.declared.rank.Rank.TheVariants as rank
use Rattle.route_table.specs.declared.candidate.Candidate.{Candidate}
use Rattle.route_table.specs.declared.route.Route.{Route}
use Rattle.route_table.specs.Routes.{IsHopTo, AreRoutes}
use Rattle.route_leaking.specs.Attachment.{is_attached}
use Rattle.router_routes.specs.Costs.{cost_of}
use Rattle.router_routes.specs.Outlooks.{Outlook, graph_in, usable_rows}

-- ---- the systems that a level reaches

abbrev pub with_cost : SystemId → Option ℕ → List (SystemId × ℕ)
with_cost system None = []
with_cost system (Some cost) = (system, cost) ∷ []

-- whether an LSP is number 0 of a system beside the root (ISO 10589 7.2.5)
abbrev pub leads_other : ℕ → LspId → Bool
leads_other root id =
    (id.number == 0 && id.node.pseudonode == 0) && not (node_number id.node == root)

abbrev pub reached_by : (ℕ → Option ℕ) → ℕ → LspId × Entry → List (SystemId × ℕ)
reached_by costs root pair =
    if leads_other root pair.0
    then with_cost pair.0.node.system (costs (node_number pair.0.node)) else []

-- the systems that a level reaches beside the root, each with its cost, in order (ISO 10589 C.2)
unfoldable pub reached_in : List (LspId × Entry) → NodeId → List (SystemId × ℕ)
reached_in told root =
    flat_map (reached_by (cost_of (usable_rows told root) (node_number root)) (node_number root)) told

-- the cost of each leaves room for a metric in 64 bits (own)
abbrev pub LeaveRoom : List (SystemId × ℕ) → Type 0
LeaveRoom systems = AllByRecursion (λ (s : SystemId × ℕ). s.1 ≤ 18446744065119617025) systems

-- ---- the prefixes that they tell

-- the rank of a prefix that is told in a level: in level 1 one that came down stands behind level 2
-- (RFC 5302 3.2)
abbrev pub rank_in : Level → Bool → Rank
rank_in level.One down = if down then rank.OneDown else rank.One
rank_in level.Two down = rank.Two

abbrev pub told_candidate : Level → SystemId × ℕ → PrefixItem → Candidate
told_candidate level system item = record {
  prefix = item.prefix;
  rank = rank_in level item.down;
  cost = system.1 + item.metric;
  origin = own_node system.0;
}

-- the prefixes that one system tells, and that all of them tell (RFC 5305 4)
abbrev pub system_candidates : Level → List (LspId × Entry) → SystemId × ℕ → List Candidate
system_candidates level told system =
    map (told_candidate level system) (reach_in told system.0)

unfoldable pub level_candidates : Level → List (LspId × Entry) → NodeId → List Candidate
level_candidates level told root =
    flat_map (system_candidates level told) (reached_in told root)

-- ---- one's own

abbrev pub own_candidate : NodeId → Prefix × ℕ → Candidate
own_candidate root own =
    record { prefix = own.0; rank = rank.Own; cost = own.1; origin = root }

-- ---- the way by default

-- whether a router of both levels reaches a system of another area in level 2 (ISO 10589 7.2.9.2)
unfoldable pub attached_of : Outlook → Bool
attached_of o =
    (o.runs.one && o.runs.two)
    && is_attached o.areas
    (map (λ (s : SystemId × ℕ). areas_at (lead_of o.told.two (own_node s.0)))
    (reached_in o.told.two o.root))

-- whether a system has the attached bit (ISO 10589 7.2.9.2)
abbrev pub has_bit : List (LspId × Entry) → SystemId × ℕ → Bool
has_bit told system = attached_at (lead_of told (own_node system.0))

-- 0.0.0.0/0 at the cost of a system (RFC 1195 3.2)
abbrev pub default_by : Option Prefix → SystemId × ℕ → List Candidate
default_by None system = []
default_by (Some all) system =
    record { prefix = all; rank = rank.Default; cost = system.1; origin = own_node system.0 } ∷ []

abbrev pub default_of : List (LspId × Entry) → SystemId × ℕ → List Candidate
default_of told system =
    if has_bit told system then default_by (prefix_from 0 0) system else []

-- by each system of level 1 that is attached (RFC 1195 3.2)
unfoldable pub defaults : List (LspId × Entry) → NodeId → List Candidate
defaults told root = flat_map (default_of told) (reached_in told root)

-- ---- what levels tell

-- what a system tells: prefixes, and in level 1 the way by default where it is attached
abbrev pub system_ways : Level → List (LspId × Entry) → SystemId × ℕ → List Candidate
system_ways level.One told system =
    system_candidates level.One told system ++ default_of told system
system_ways level.Two told system = system_candidates level.Two told system

unfoldable pub level_ways : Level → List (LspId × Entry) → NodeId → List Candidate
level_ways level told root = flat_map (system_ways level told) (reached_in told root)

-- what both levels tell
unfoldable pub ways_of : Outlook → List Candidate
ways_of o = level_ways level.One o.told.one o.root ++ level_ways level.Two o.told.two o.root

-- ---- all of them

-- whether a candidate is for 0.0.0.0/0 (own)
abbrev pub is_for_all : Candidate → Bool
is_for_all c = c.prefix.address == 0 && c.prefix.length == 0

-- all but those by default (RFC 5302 3.2)
unfoldable pub firm_candidates : Outlook → List Candidate
firm_candidates o =
    map (own_candidate o.root) o.prefixes
    ++ (level_candidates level.One o.told.one o.root
    ++ level_candidates level.Two o.told.two o.root)

-- whether the way by default counts: in level 1 of a router that isn't attached itself, where
-- nothing else is for 0.0.0.0/0 (own)
abbrev pub has_defaults : Outlook → Bool
has_defaults o =
    (o.runs.one && not (attached_of o)) && not (list_any is_for_all (firm_candidates o))

unfoldable pub candidates_of : Outlook → List Candidate
candidates_of o =
    firm_candidates o ++ (if has_defaults o then defaults o.told.one o.root else [])

-- ---- the same, with ways by default beside others for 0.0.0.0/0, which stand before them (own)

abbrev pub is_default : Rank → Bool
is_default rank.Own = false
is_default rank.One = false
is_default rank.Two = false
is_default rank.OneDown = false
is_default rank.Default = true

-- whether ways by default may count: in level 1 of a router that isn't attached itself
abbrev pub may_default : Outlook → Bool
may_default o = o.runs.one && not (attached_of o)

abbrev pub is_weighed : Bool → Candidate → Bool
is_weighed may c = may || not (is_default c.rank)

unfoldable pub weighed_of : Outlook → List Candidate
weighed_of o =
    map (own_candidate o.root) o.prefixes ++ filter (is_weighed (may_default o)) (ways_of o)

-- ---- the routes of a router (RFC 5302 3.2)

abbrev pub AreRoutesOf : Outlook → List Route → Type 0
AreRoutesOf o routes =
    AreRoutes (IsHopTo (graph_in o.told.one o.root) (graph_in o.told.two o.root))
    (candidates_of o) routes
