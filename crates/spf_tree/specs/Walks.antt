-- Walks over rows from a root, and what they cost (ISO 10589 C.2; the form: own).

use Rattle.std.specs.Prelude.{◌≡◌, ◌≢◌, ℕ, ◌+◌, ◌≤◌, List, [], ◌∷◌, Option, Some, None}
use Rattle.std.specs.List.{Contains}
use Rattle.spf_tree.specs.declared.row.Row.{Row}
use Rattle.spf_tree.specs.Nodes.{node_number}

-- the node that a row starts from, and the one that it ends at (RFC 5305 3)
abbrev pub start : Row → ℕ
start row = node_number row.from

abbrev pub end : Row → ℕ
end row = node_number row.to

-- a walk from the root to the node, its last row first: the first row starts at the root, each further one where the
-- one before ends, and none ends at the root; the walk without rows is the one to the root (ISO 10589 C.2)
abbrev pub IsWalk : List Row → ℕ → List Row → ℕ → Type 0
IsWalk rows root [] node = node ≡ root
IsWalk rows root (row ∷ walk) node =
    Contains rows row × (end row ≡ node) × (node ≢ root) × IsWalk rows root walk (start row)

-- the sum of a walk's metrics (ISO 10589 C.2)
abbrev pub cost : List Row → ℕ
cost [] = 0
cost (row ∷ walk) = row.metric + cost walk

-- there is a cost, and it is at most this (own)
abbrev pub IsWithin : Option ℕ → ℕ → Type 0
IsWithin None most = ⊥
IsWithin (Some c) most = c ≤ most

-- the least costs of nodes: a node has one exactly where a walk from the root reaches it; some walk costs that, and no
-- walk costs less (ISO 10589 C.2)
pub record AreLeast (rows : List Row) (root : ℕ) (costs : ℕ → Option ℕ) : Type 0 where
  pub walk : (node c : ℕ) → costs node ≡ Some c
      → (walk : List Row) × IsWalk rows root walk node × (cost walk ≡ c)
  pub least : (walk : List Row) (node : ℕ) → IsWalk rows root walk node
      → IsWithin (costs node) (cost walk)
