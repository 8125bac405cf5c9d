-- Routes: of each prefix the candidates of the least rank and, of these, of the least cost.

use Rattle.std.specs.Prelude.{◌≡◌, ℕ, ◌≤◌, ◌<◌, ◌⊎◌, ◌↔◌, List, length, slice_index_or}
use Rattle.std.specs.List.{Contains}
use Rattle.std.specs.List.Sorted.{IsStrictlyIncreasing}
use Rattle.spf_tree.specs.Graphs.{GraphOf}
use Rattle.spf_tree.specs.Nodes.{node_number}
use Rattle.spf_tree.specs.NextHops.{IsNextHop}
use Rattle.route_table.specs.declared.rank.Rank.{Rank}
use Rattle.route_table.specs.declared.rank.Rank.TheVariants.{Own, One, Two, OneDown, Default}
use Rattle.route_table.specs.declared.candidate.Candidate.{Candidate}
use Rattle.route_table.specs.declared.route.Route.{Route}
use Rattle.route_table.specs.Ranks.{rank_number, prefix_number}

-- a next hop by rank: in the graph of level 2 for rank Two, none for one's own, else in that of level 1 (RFC 1195 3.10)
abbrev pub IsHopBy : GraphOf → GraphOf → Rank → ℕ → ℕ → Type 0
IsHopBy one two Own origin hop = ⊥
IsHopBy one two One origin hop = IsNextHop one.rows (node_number one.root) origin hop
IsHopBy one two Two origin hop = IsNextHop two.rows (node_number two.root) origin hop
IsHopBy one two OneDown origin hop = IsNextHop one.rows (node_number one.root) origin hop
IsHopBy one two Default origin hop = IsNextHop one.rows (node_number one.root) origin hop

-- a next hop to the origin of a candidate (RFC 1195 3.10)
abbrev pub IsHopTo : GraphOf → GraphOf → Candidate → ℕ → Type 0
IsHopTo one two candidate hop = IsHopBy one two candidate.rank (node_number candidate.origin) hop

-- the candidate is for the route's prefix, and of its rank and cost (own)
abbrev pub IsLike : Route → Candidate → Type 0
IsLike route candidate =
    (prefix_number candidate.prefix ≡ prefix_number route.prefix)
    × (rank_number candidate.rank ≡ rank_number route.rank) × (candidate.cost ≡ route.cost)

-- a rank and cost are no worse than others: the rank counts first (RFC 5302 3.2)
abbrev pub IsNoWorse : ℕ → ℕ → ℕ → ℕ → Type 0
IsNoWorse rank cost other_rank other_cost =
    (rank < other_rank) ⊎ ((rank ≡ other_rank) × (cost ≤ other_cost))

-- the best way to a prefix: some candidate for it has this rank and cost, none is better, and the hops are those to all
-- candidates of that rank and cost, each once and in order (RFC 5302 3.2)
pub record IsRoute (HopTo : Candidate → ℕ
    → Type 0) (candidates : List Candidate) (route : Route) : Type 0 where
  pub some : (c : Candidate) × Contains candidates c × IsLike route c
  pub best : (c : Candidate) → Contains candidates c
      → prefix_number c.prefix ≡ prefix_number route.prefix
      → IsNoWorse (rank_number route.rank) route.cost (rank_number c.rank) c.cost
  pub rising : IsStrictlyIncreasing route.hops
  pub hops : (hop : ℕ) → Contains route.hops hop
      ↔ ((c : Candidate) × Contains candidates c × IsLike route c × HopTo c hop)

-- the routes rise by prefix, so each prefix has at most one (own)
pub record AreRising (routes : List Route) : Type 0 where
  pub below : (i j : ℕ) (d : Route) → i < j → j < length routes
      → prefix_number (slice_index_or routes i d).prefix < prefix_number
      (slice_index_or routes j d).prefix

-- the best way to each prefix that a candidate is for, in order of prefix, and nothing else (RFC 5302 3.2)
pub record AreRoutes (HopTo : Candidate → ℕ
    → Type 0) (candidates : List Candidate) (routes : List Route) : Type 0 where
  pub rising : AreRising routes
  pub each : (route : Route) → Contains routes route → IsRoute HopTo candidates route
  pub all : (c : Candidate) → Contains candidates c
      → (route : Route) × Contains routes route
      × (prefix_number route.prefix ≡ prefix_number c.prefix)
