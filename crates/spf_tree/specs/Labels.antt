-- Labels: the nodes of a search beside the costs known so far.

use Rattle.std.specs.Prelude.{ℕ, ◌<◌, ◌≤◌, ◌==◌, List, [], ◌∷◌, map, length, slice_index_or, Option, None, is_some, if◌then◌else◌}
use Rattle.spf_tree.specs.declared.label.Label.{Label}

-- the cost that the labels have for a node (own)
abbrev pub at : List Label → ℕ → Option ℕ
at [] node = None
at (label ∷ labels) node = if label.node == node then label.cost else at labels node

-- the nodes of the labels (own)
abbrev pub names : List Label → List ℕ
names labels = map (λ (label : Label). label.node) labels

-- the labels are in order of node, each node once (own)
pub record IsRising (labels : List Label) : Type 0 where
  pub below : (i j : ℕ) (d : Label) → i < j → j < length labels
      → (slice_index_or labels i d).node < (slice_index_or labels j d).node

-- a node of which no cost is known (own)
abbrev pub unknown : ℕ → Label
unknown node = record { node = node; cost = None }

-- the old cost of a node, unless it is marked (own)
abbrev pub carry : List Label → List Label → ℕ → Label
carry old marks node =
    record { node = node; cost = if is_some (at marks node) then None else at old node }

-- the labels before a place are below the node, and those from it on aren't (own)
pub record IsPlace (labels : List Label) (place node : ℕ) : Type 0 where
  pub below : (k : ℕ) (d : Label) → k < place → (slice_index_or labels k d).node < node
  pub above : (k : ℕ) (d : Label) → place ≤ k → k < length labels
      → node ≤ (slice_index_or labels k d).node
