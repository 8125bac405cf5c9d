-- Distances as contracts see them: nodes beside their costs (ISO 10589 C.2; the form: own).

use Rattle.std.specs.Prelude.{◌≡◌, ℕ, ◌==◌, ◌≤◌, List, [], ◌∷◌, map, Option, Some, None, if◌then◌else◌}
use Rattle.std.specs.List.Sorted.{IsStrictlyIncreasing}
use Rattle.spf_tree.specs.declared.row.Row.{Row}
use Rattle.spf_tree.specs.declared.label.Label.{Label}
use Rattle.spf_tree.specs.Walks.{AreLeast}

-- the cost beside a node (own)
abbrev pub cost_at : List (ℕ × ℕ) → ℕ → Option ℕ
cost_at [] node = None
cost_at (entry ∷ entries) node = if entry.0 == node then Some entry.1 else cost_at entries node

-- each node that a walk from the root reaches, once and in order, beside the least cost (ISO 10589 C.2); so there is
-- one list of them
pub record AreDistances (rows : List Row) (root : ℕ) (distances : List (ℕ × ℕ)) : Type 0 where
  pub rising : IsStrictlyIncreasing (map (λ (entry : ℕ × ℕ). entry.0) distances)
  pub least : AreLeast rows root (cost_at distances)

-- each cost leaves room for a metric in 64 bits: it is at most (2 ^ 32 - 1) ^ 2 (own)
pub record AreSmall (costs : List (ℕ × ℕ)) : Type 0 where
  pub each : (node cost : ℕ) → cost_at costs node ≡ Some cost → cost ≤ 18446744065119617025

-- the labels that have a cost (own)
abbrev pub reached_of : ℕ → Option ℕ → List (ℕ × ℕ) → List (ℕ × ℕ)
reached_of node None entries = entries
reached_of node (Some c) entries = (node, c) ∷ entries

abbrev pub reached : List Label → List (ℕ × ℕ)
reached [] = []
reached (label ∷ labels) = reached_of label.node label.cost (reached labels)
