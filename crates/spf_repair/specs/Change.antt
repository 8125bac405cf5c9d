-- A change of rows, and the bound on its steps. All of it own.

use Rattle.std.specs.Prelude.{◌≡◌, ◌≢◌, ℕ, ◌+◌, ◌*◌, ◌≤◌, ◌⊎◌, nat_eq, List, Option, length}
use Rattle.std.specs.List.{Contains, IsDistinct}
use Rattle.spf_tree.specs.declared.row.Row.{Row}
use Rattle.spf_tree.specs.Walks.{start, end}

-- a row with the same ends and metric is there
abbrev pub IsAlike : List Row → Row → Type 0
IsAlike rows row =
    (other : Row) × Contains rows other × (start other ≡ start row) × (end other ≡ end row)
    × (other.metric ≡ row.metric)

-- rows that went and rows that came between two lists of rows
pub record AreChanged (before rows removed added : List Row) : Type 0 where
  pub stays : (row : Row) → Contains before row → IsAlike rows row ⊎ IsAlike removed row
  pub comes : (row : Row) → Contains rows row → IsAlike before row ⊎ IsAlike added row
  pub there : (row : Row) → Contains added row → IsAlike rows row

-- the steps from one count to the other are at most 4 for each row listed, and one for each node of a list of different nodes whose costs changed
pub record IsBound (old new : ℕ → Option ℕ) (listed before after : ℕ) : Type 0 where
  pub changed : List ℕ
  pub distinct : IsDistinct nat_eq changed
  pub differ : (node : ℕ) → Contains changed node → new node ≢ old node
  pub bound : after ≤ before + 4 * listed + length changed

-- each removed row has an added one with the same ends and no greater metric
abbrev pub OnlyFalls : List Row → List Row → Type 0
OnlyFalls removed added =
    (row : Row) → Contains removed row → (other : Row) × Contains added other
    × (start other ≡ start row) × (end other ≡ end row) × (other.metric ≤ row.metric)
