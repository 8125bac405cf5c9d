-- A prefix of one owner, as the candidates of each router tell it (RFC 5302 3.2; the form: own).
use Rattle.std.specs.Prelude.{◌≡◌, ◌≢◌, ℕ, ◌+◌, ◌≤◌, List}
use Rattle.std.specs.List.{Contains}
use Rattle.spf_tree.specs.Graphs.{GraphOf}
use Rattle.spf_tree.specs.Nodes.{node_number}
use Rattle.route_table.specs.declared.candidate.Candidate.{Candidate}
use Rattle.route_table.specs.declared.route.Route.{Route}
use Rattle.route_table.specs.Ranks.{rank_number, prefix_number}
use Rattle.forward_views.specs.Moves.{IsLeastCost, IsMoveCost}

-- a candidate for the prefix, of a rank and a cost (own)
abbrev pub IsFor : Candidate → ℕ → ℕ → ℕ → Type 0
IsFor c prefix rank cost =
    (prefix_number c.prefix ≡ prefix) × (rank_number c.rank ≡ rank) × (c.cost ≡ cost)

-- at another router than the owner the candidates for the prefix are those of the owner in level 1,
-- at the least cost to it and the owner's metric (own)
pub record IsTold (one : GraphOf) (candidates : List Candidate)
    (prefix owner metric : ℕ) : Type 0 where
  pub from : (c : Candidate) → Contains candidates c → prefix_number c.prefix ≡ prefix
      → (d : ℕ) × IsLeastCost one.rows (node_number one.root) owner d
      × IsFor c prefix 1 (d + metric) × (node_number c.origin ≡ owner)
  pub into : (d : ℕ) → IsLeastCost one.rows (node_number one.root) owner d
      → (c : Candidate) × Contains candidates c × IsFor c prefix 1 (d + metric)

-- at the owner the least of its own metrics for the prefix is this one (own)
pub record IsOwn (candidates : List Candidate) (prefix metric : ℕ) : Type 0 where
  pub from : (c : Candidate) → Contains candidates c → prefix_number c.prefix ≡ prefix
      → rank_number c.rank ≡ 0 → metric ≤ c.cost
  pub into : (c : Candidate) × Contains candidates c × IsFor c prefix 0 metric

-- at a router, whichever it is (own)
pub record IsAt (one : GraphOf) (candidates : List Candidate)
    (prefix owner metric : ℕ) : Type 0 where
  pub own : node_number one.root ≡ owner → IsOwn candidates prefix metric
  pub told : node_number one.root ≢ owner → IsTold one candidates prefix owner metric

-- a move from a route to one of its next hops finds a route there, and the cost falls by just what
-- the move costs (own)
pub record FallsTo (one : GraphOf) (hop : ℕ) (route : Route) (prefix : ℕ)
    (routes : List Route) : Type 0 where
  pub move : ℕ
  pub next : Route
  pub other : hop ≢ node_number one.root
  pub moved : IsMoveCost one.rows (node_number one.root) hop move
  pub there : Contains routes next
  pub same : prefix_number next.prefix ≡ prefix
  pub sum : route.cost ≡ move + next.cost
