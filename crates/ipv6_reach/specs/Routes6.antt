-- IPv6 routes: of each prefix the candidates of the least rank and, of these, of the least cost (RFC 5308 5, RFC 5302 3.2).

use Rattle.std.specs.Prelude.{◌≡◌, ℕ, ◌+◌, ◌*◌, ◌<◌, ◌↔◌, List, length, slice_index_or}
use Rattle.std.specs.List.{Contains}
use Rattle.std.specs.List.Sorted.{IsStrictlyIncreasing}
use Rattle.isis_base.specs.declared.identifiers.SystemId.{SystemId}
use Rattle.isis_base.specs.declared.identifiers.LspId.{LspId}
use Rattle.lsp_store.specs.declared.entry.Entry.{Entry}
use Rattle.lsp_view.specs.Views.{own_node, rows_in, overloaded_in}
use Rattle.spf_tree.specs.Graphs.{GraphOf, AreUsable}
use Rattle.spf_tree.specs.Nodes.{node_number, system_node}
use Rattle.spf_tree.specs.Distances.{AreDistances}
use Rattle.spf_tree.specs.NextHops.{IsNextHop}
use Rattle.route_table.specs.Routes.{IsNoWorse}
use Rattle.ipv6_reach.specs.declared.prefix6.Prefix6.{Prefix6}
use Rattle.ipv6_reach.specs.declared.rank6.Rank6.{Rank6}
use Rattle.ipv6_reach.specs.declared.rank6.Rank6.TheVariants.{Own, Up, Down}
use Rattle.ipv6_reach.specs.declared.candidate6.Candidate6.{Candidate6}
use Rattle.ipv6_reach.specs.declared.route6.Route6.{Route6}
use Rattle.ipv6_reach.specs.Reach6.{candidates6}

-- the place of a rank: the better one is the lesser; a prefix that came down is behind all others (RFC 5302 3.2)
abbrev pub rank6_number : Rank6 → ℕ
rank6_number Own = 0
rank6_number Up = 1
rank6_number Down = 2

-- a prefix as a number, by its address and then by its length (own)
abbrev pub prefix6_number : Prefix6 → ℕ
prefix6_number prefix = prefix.address * 256 + prefix.length

-- a next hop by rank: none for the root's own, else one to the origin (ISO 10589 C.2)
abbrev pub IsHopBy6 : GraphOf → Rank6 → ℕ → ℕ → Type 0
IsHopBy6 graph Own origin hop = ⊥
IsHopBy6 graph Up origin hop = IsNextHop graph.rows (node_number graph.root) origin hop
IsHopBy6 graph Down origin hop = IsNextHop graph.rows (node_number graph.root) origin hop

-- a next hop to the origin of a candidate
abbrev pub IsHopTo6 : GraphOf → Candidate6 → ℕ → Type 0
IsHopTo6 graph candidate hop = IsHopBy6 graph candidate.rank (node_number candidate.origin) hop

-- the candidate is for the route's prefix, and of its rank and cost (own)
abbrev pub IsLike6 : Route6 → Candidate6 → Type 0
IsLike6 route candidate =
    (prefix6_number candidate.prefix ≡ prefix6_number route.prefix)
    × (rank6_number candidate.rank ≡ rank6_number route.rank) × (candidate.cost ≡ route.cost)

-- the best way to a prefix: some candidate for it has this rank and cost, none is better, and the hops are those to all
-- candidates of that rank and cost, each once and in order (RFC 5302 3.2)
pub record IsRoute6 (HopTo : Candidate6 → ℕ
    → Type 0) (candidates : List Candidate6) (route : Route6) : Type 0 where
  pub some : (c : Candidate6) × Contains candidates c × IsLike6 route c
  pub best : (c : Candidate6) → Contains candidates c
      → prefix6_number c.prefix ≡ prefix6_number route.prefix
      → IsNoWorse (rank6_number route.rank) route.cost (rank6_number c.rank) c.cost
  pub rising : IsStrictlyIncreasing route.hops
  pub hops : (hop : ℕ) → Contains route.hops hop
      ↔ ((c : Candidate6) × Contains candidates c × IsLike6 route c × HopTo c hop)

-- the best way to each prefix that a candidate is for, in order of prefix, each prefix once, and nothing else
pub record AreRoutes6 (HopTo : Candidate6 → ℕ
    → Type 0) (candidates : List Candidate6) (routes : List Route6) : Type 0 where
  pub rising : (i j : ℕ) (d : Route6) → i < j → j < length routes
      → prefix6_number (slice_index_or routes i d).prefix < prefix6_number
      (slice_index_or routes j d).prefix
  pub each : (route : Route6) → Contains routes route → IsRoute6 HopTo candidates route
  pub all : (c : Candidate6) → Contains candidates c
      → (route : Route6) × Contains routes route
      × (prefix6_number route.prefix ≡ prefix6_number c.prefix)

-- the IPv6 routes of a system in a database: by the rows that may be walked from it (ISO 10589 7.2.8) and the least costs over
-- them (ISO 10589 C.2)
pub record AreRoutesFrom (entries : List (LspId × Entry)) (root : SystemId) (routes : List Route6) : Type 0 where
  pub graph : GraphOf
  pub usable : AreUsable (rows_in entries) (overloaded_in entries) (own_node root) graph
  pub costs : List (ℕ × ℕ)
  pub least : AreDistances graph.rows (system_node root) costs
  pub best : AreRoutes6 (IsHopTo6 graph) (candidates6 entries root costs) routes
