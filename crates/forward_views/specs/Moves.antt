-- Moves of a packet from a router to one of its next hops, and what they cost (RFC 1195 3.10; the
-- form: own).
use Rattle.std.specs.Prelude.{◌≡◌, ◌≢◌, ◌⊎◌, ℕ, ◌+◌, ◌≤◌, true, List, [], ◌∷◌}
use Rattle.std.specs.List.{filter}
use Rattle.isis_base.specs.declared.identifiers.NodeId.{NodeId}
use Rattle.spf_tree.specs.declared.row.Row.{Row}
use Rattle.spf_tree.specs.Nodes.{is_system}
use Rattle.spf_tree.specs.Walks.{start, end, IsWalk, cost}
use Rattle.spf_tree.specs.Graphs.{is_usable}

-- the rows that may be walked from a node (ISO 10589 7.2.8)
abbrev pub usable_from : List Row → List NodeId → ℕ → List Row
usable_from rows overloaded root =
    filter (λ row. is_usable rows overloaded root (start row) (end row) row.metric) rows

-- a walk passes no system but those where it begins and ends: it passes a node where one of its
-- rows starts there (own)
abbrev pub IsDirect : List Row → ℕ → ℕ → Type 0
IsDirect [] from to = Unit {0}
IsDirect (row ∷ walk) from to =
    (is_system (start row) ≡ true → (start row ≡ from) ⊎ (start row ≡ to)) × IsDirect walk from to

-- what a move costs: the least cost of a walk from the one to the other that passes no third system
-- (own)
pub record IsMoveCost (rows : List Row) (from to least : ℕ) : Type 0 where
  pub walk : (walk : List Row) × IsWalk rows from walk to × IsDirect walk from to
      × (cost walk ≡ least)
  pub none_less : (walk : List Row) → IsWalk rows from walk to → IsDirect walk from to
      → least ≤ cost walk

-- the least cost of a walk from the root to a node (ISO 10589 C.2)
pub record IsLeastCost (rows : List Row) (root node least : ℕ) : Type 0 where
  pub walk : (walk : List Row) × IsWalk rows root walk node × (cost walk ≡ least)
  pub none_less : (walk : List Row) → IsWalk rows root walk node → least ≤ cost walk

-- along a move to a next hop the cost to the target falls by just what the move costs, each cost
-- over the rows that may be walked from where it is counted (own)
pub record Falls (rows : List Row) (overloaded : List NodeId) (from hop target : ℕ) : Type 0 where
  pub move : ℕ
  pub rest : ℕ
  pub other : hop ≢ from
  pub moved : IsMoveCost (usable_from rows overloaded from) from hop move
  pub there : IsLeastCost (usable_from rows overloaded hop) hop target rest
  pub all : IsLeastCost (usable_from rows overloaded from) from target (move + rest)
