-- What a walk of a packet looks at of each router, and what tests find of all of them: the same
-- live LSPs, that each system tells its own routes, and one owner of the prefix. All of it own.
use Rattle.std.specs.Prelude.{◌≡◌, ℕ, ◌==◌, Bool, false, List, [], map, filter, drop}
use Rattle.std.specs.List.{Contains}
use Rattle.std.specs.List.Sorted.{IsPermutation}
use Rattle.isis_base.specs.declared.identifiers.LspId.{LspId}
use Rattle.isis_base.specs.Identifiers.{lsp_number}
use Rattle.isis_tlv.specs.declared.neighbour.NeighbourItem.{NeighbourItem}
use Rattle.isis_tlv.specs.declared.prefix.PrefixItem.{PrefixItem}
use Rattle.model_router.specs.Routers.{Router}
use Rattle.lsp_store.specs.declared.entry.Entry.{Entry}
use Rattle.lsp_view.specs.Bodies.{neighbours_in}
use Rattle.lsp_view.specs.Views.{lead_of, reach_in, attached_at}
use Rattle.spf_tree.specs.Nodes.{node_number}
use Rattle.route_table.specs.declared.route.Route.{Route}
use Rattle.route_table.specs.Ranks.{rank_number, prefix_number}
use Rattle.router_routes.specs.Outlooks.{Outlook, outlook_of}
use Rattle.router_routes.specs.Candidates.{AreRoutesOf}

-- a router's state and its routes
pub record Look : Type 0 where
  pub router : Router
  pub routes : List Route

-- what its routes look at, its node as a number, and what the live LSPs of level 1 tell it
abbrev pub outlook : Look → Outlook
outlook look = outlook_of look.router

abbrev pub root_of : Look → ℕ
root_of look = node_number (outlook look).root

abbrev pub told_of : Look → List (LspId × Entry)
told_of look = (outlook look).told.one

-- what all are to hold alike of an LSP: its ID, its flags octet and its TLVs (ISO 10589 9.8)
abbrev pub said : LspId × Entry → ℕ × (ℕ × List ℕ)
said pair = (lsp_number pair.0, (pair.1.flags, drop 27 pair.1.octets))

-- ---- a router's own routes

-- those of rank Own, in their order, as prefixes with their costs
abbrev pub is_own : Route → Bool
is_own route = rank_number route.rank == 0

abbrev pub way_of : Route → ℕ × ℕ
way_of route = (prefix_number route.prefix, route.cost)

abbrev pub own_ways : List Route → List (ℕ × ℕ)
own_ways routes = map way_of (filter is_own routes)

-- what the live LSPs of its own system list (RFC 5305 4)
abbrev pub own_items : Look → List PrefixItem
own_items look = reach_in (told_of look) (outlook look).root.system

abbrev pub item_way : PrefixItem → ℕ × ℕ
item_way item = (prefix_number item.prefix, item.metric)

-- its own LSPs list its own routes, none of them as one that came down, and its system isn't
-- attached (RFC 5302 3.2, ISO 10589 7.2.9.2)
pub record IsSettled (look : Look) : Type 0 where
  pub same : IsPermutation (map item_way (own_items look)) (own_ways look.routes)
  pub up : (item : PrefixItem) → Contains (own_items look) item → item.down ≡ false
  pub apart : attached_at (lead_of (told_of look) (outlook look).root) ≡ false

-- ---- what LSPs list

-- some live LSP of its own node lists a neighbour at metric 0 (RFC 5305 3)
abbrev pub ListsZero : Look → Type 0
ListsZero look =
    (pair : LspId × Entry) × Contains (told_of look) pair
    × (node_number pair.0.node ≡ root_of look)
    × ((item : NeighbourItem) × Contains (neighbours_in pair.1.octets) item × (item.metric ≡ 0))

-- each live LSP is of a system that is one of the routers
abbrev pub AreKnown : List Look → Type 0
AreKnown looks = (look : Look) (pair : LspId × Entry) → Contains looks look
    → Contains (told_of look) pair
    → (other : Look) × Contains looks other × ((outlook other).root.system ≡ pair.0.node.system)

-- ---- all routers together

-- they run level 1 alone, and hold the same live LSPs, which are of these routers and tell their
-- own routes, none at metric 0 from a router; no two are one system
pub record AreAlike (looks : List Look) : Type 0 where
  pub routes_are : (look : Look) → Contains looks look → AreRoutesOf (outlook look) look.routes
  pub alone : (look : Look) → Contains looks look → (outlook look).told.two ≡ []
  pub known : AreKnown looks
  pub same : (a b : Look) → Contains looks a → Contains looks b
      → map said (told_of a) ≡ map said (told_of b)
  pub settled : (look : Look) → Contains looks look → IsSettled look
  pub none_zero : (look : Look) → Contains looks look → ListsZero look → ⊥
  pub one_each : (a b : Look) → Contains looks a → Contains looks b
      → root_of a ≡ root_of b → a ≡ b

-- a router has a route of its own for the prefix
abbrev pub HasOwn : Look → ℕ → Type 0
HasOwn look prefix =
    (route : Route) × Contains look.routes route × (prefix_number route.prefix ≡ prefix)
    × (rank_number route.rank ≡ 0)

-- it is the one router that has
pub record IsOwner (looks : List Look) (prefix : ℕ) (owner : Look) : Type 0 where
  pub there : Contains looks owner
  pub own : HasOwn owner prefix
  pub only : (look : Look) → Contains looks look → HasOwn look prefix → look ≡ owner
