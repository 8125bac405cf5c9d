-- Which costs are given up after rows were removed. All of it own.

use Rattle.std.specs.Prelude.{◌≡◌, ◌≢◌, ℕ, ◌+◌, ◌≤◌, ◌<◌, ◌⊎◌, true, false, List, length, Some, is_some, slice_index_or}
use Rattle.std.specs.List.{Contains}
use Rattle.spf_tree.specs.declared.row.Row.{Row}
use Rattle.spf_tree.specs.declared.label.Label.{Label}
use Rattle.spf_tree.specs.Walks.{start, end}
use Rattle.spf_tree.specs.Labels.{at}
use Rattle.spf_tree.specs.Labels.{names}
use Rattle.spf_tree.specs.Exploring.{IsFront, unmarked, IsTight}

-- the node has a mark
abbrev pub IsMarked : List Label → ℕ → Type 0
IsMarked marks node = is_some (at marks node) ≡ true

-- marks and their list have grown
pub record HaveGrown (root : ℕ) (marks : List Label) (nodes : List ℕ) (later : List Label)
    (more : List ℕ) : Type 0 where
  pub names : names later ≡ names marks
  pub kept : (node : ℕ) → IsMarked marks node → IsMarked later node
  pub inside : ((node : ℕ) → IsMarked marks node → Contains nodes node) → (node : ℕ)
      → IsMarked later node → Contains more node
  pub front : IsFront nodes more
  pub few : unmarked later + length more ≤ unmarked marks + length nodes
  pub not_root : is_some (at marks root) ≡ false → is_some (at later root) ≡ false

-- the end's label may hang on the start's
abbrev pub Hangs : List Label → ℕ → ℕ → ℕ → Type 0
Hangs labels node to metric =
    (c d : ℕ) × (at labels node ≡ Some c) × (at labels to ≡ Some d) × (c + metric ≤ d)

abbrev pub RowHangs : List Label → Row → Type 0
RowHangs labels row = Hangs labels (start row) (end row) row.metric

-- a row with the same ends and no greater metric is there
abbrev pub HasParallel : List Row → ℕ → ℕ → ℕ → Type 0
HasParallel rows from to metric =
    (other : Row) × Contains rows other × (start other ≡ from) × (end other ≡ to)
    × (other.metric ≤ metric)

-- a removed row that a least walk might use has marked its end, unless another takes its place
abbrev pub IsStruck : List Row → ℕ → List Label → List Label → Row → Type 0
IsStruck rows root old marks row =
    (end row ≡ root)
    ⊎ ((IsTight old row → ⊥)
    ⊎ (HasParallel rows (start row) (end row) row.metric ⊎ IsMarked marks (end row)))

-- from the first so many marked nodes, what may hang is marked
pub record IsErasing (rows : List Row) (root : ℕ) (old marks : List Label) (nodes : List ℕ)
    (many : ℕ) : Type 0 where
  pub within : many ≤ length nodes
  pub marked : (node : ℕ) → IsMarked marks node → Contains nodes node
  pub closed : (k d : ℕ) (row : Row) → k < many → Contains rows row
      → start row ≡ slice_index_or nodes k d → end row ≢ root → RowHangs old row
      → IsMarked marks (end row)

-- from each marked node, what may hang is marked
pub record IsClosed (rows : List Row) (root : ℕ) (old marks : List Label) : Type 0 where
  pub not_root : is_some (at marks root) ≡ false
  pub hangs : (row : Row) → Contains rows row → IsMarked marks (start row) → end row ≢ root
      → RowHangs old row → IsMarked marks (end row)

-- of the first so many rows, those from the node have marked what may hang
abbrev pub HereHangs : List Row → ℕ → List Label → ℕ → List Label → ℕ → Type 0
HereHangs rows root old node marks place =
    (k : ℕ) (d : Row) → k < place → start (slice_index_or rows k d) ≡ node
    → end (slice_index_or rows k d) ≢ root → RowHangs old (slice_index_or rows k d)
    → IsMarked marks (end (slice_index_or rows k d))
