-- Next hops: the first systems of least walks.

use Rattle.std.specs.Prelude.{◌≡◌, ℕ, ◌≤◌, List, [], ◌∷◌, Option, Some, None, is_some, if◌then◌else◌}
use Rattle.spf_tree.specs.declared.row.Row.{Row}
use Rattle.spf_tree.specs.Nodes.{is_system}
use Rattle.spf_tree.specs.Walks.{end, IsWalk, cost}

-- a walk to the node that costs no more than any other (ISO 10589 C.2)
pub record IsLeastWalk (rows : List Row) (root : ℕ) (walk : List Row) (node : ℕ) : Type 0 where
  pub is : IsWalk rows root walk node
  pub least : (other : List Row) → IsWalk rows root other node → cost walk ≤ cost other

-- the first system after the root on a walk, whose last row stands first: pseudonodes are stepped over (ISO 10589 C.2)
abbrev pub first_system : List Row → Option ℕ
first_system [] = None
first_system (row ∷ walk) =
    if is_some (first_system walk) then first_system walk
    else (if is_system (end row) then Some (end row) else None)

-- a next hop: the first system after the root on some least walk to the target (ISO 10589 C.2)
abbrev pub IsNextHop : List Row → ℕ → ℕ → ℕ → Type 0
IsNextHop rows root target hop =
    (walk : List Row) × IsLeastWalk rows root walk target × (first_system walk ≡ Some hop)
