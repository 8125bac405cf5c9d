-- Rows that one list has more often than another, found over both in order. All of it own.
use Rattle.std.specs.Prelude.{◌≡◌, ℕ, ◌+◌, ◌≤◌, ◌<◌, ◌⊎◌, false, List, length, take, slice_index_or}
use Rattle.spf_tree.specs.declared.row.Row.{Row}
use Rattle.spf_tree.specs.Walks.{start, end}
use Rattle.spf_tree.specs.Graphs.{same_row, times}
use Rattle.router_routes.specs.declared.differences.Side.{Side}
use Rattle.router_routes.specs.declared.differences.Side.TheVariants.{Old, New, Both}

-- no row is in both lists
abbrev pub ArePartedRows : List Row → List Row → Type 0
ArePartedRows removed added = (row : Row) → (times removed row ≡ 0) ⊎ (times added row ≡ 0)

-- each row is removed as often as the old rows have it more often than the new ones, and added as
-- often as they have it less often
pub record AreDifferences (old new removed added : List Row) : Type 0 where
  pub counts : (row : Row)
      → times old row + times added row ≡ times new row + times removed row
  pub apart : (row : Row) → (times removed row ≡ 0) ⊎ (times added row ≡ 0)

-- ---- rows in order: by start, then by end, then by metric

abbrev pub IsBefore : Row → Row → Type 0
IsBefore a b =
    (start a < start b)
    ⊎ ((start a ≡ start b)
    × ((end a < end b) ⊎ ((end a ≡ end b) × (a.metric < b.metric))))

abbrev pub IsNotAfter : Row → Row → Type 0
IsNotAfter a b =
    (start a < start b)
    ⊎ ((start a ≡ start b)
    × ((end a < end b) ⊎ ((end a ≡ end b) × (a.metric ≤ b.metric))))

abbrev pub IsSame : Row → Row → Type 0
IsSame a b = (start a ≡ start b) × (end a ≡ end b) × (a.metric ≡ b.metric)

pub record AreInOrder (rows : List Row) : Type 0 where
  pub order : (i j : ℕ) (d : Row) → i < j → j < length rows
      → IsNotAfter (slice_index_or rows i d) (slice_index_or rows j d)

-- ---- the walk over both

-- which of two rows comes first
abbrev pub Stands : Side → Row → Row → Type 0
Stands Old a b = IsBefore a b
Stands New a b = IsBefore b a
Stands Both a b = IsSame a b

-- which list has the next row, where not both are at their ends
abbrev pub IsNext : Side → List Row → List Row → ℕ → ℕ → Type 0
IsNext Old old new here there = (here < length old)
    × ((d : Row) → there < length new
    → IsBefore (slice_index_or old here d) (slice_index_or new there d))
IsNext New old new here there = (there < length new)
    × ((d : Row) → here < length old
    → IsBefore (slice_index_or new there d) (slice_index_or old here d))
IsNext Both old new here there =
    (here < length old) × (there < length new)
    × ((d : Row) → IsSame (slice_index_or old here d) (slice_index_or new there d))

-- no row from a place on is like one of these
abbrev pub IsPast : List Row → List Row → ℕ → Type 0
IsPast those rows place =
    (row : Row) → 1 ≤ times those row → (k : ℕ) (d : Row) → place ≤ k → k < length rows
    → same_row row (slice_index_or rows k d) ≡ false

-- the differences of the first so many old rows and the first so many new ones
pub record IsParting (old new removed added : List Row) (here there : ℕ) : Type 0 where
  pub within_old : here ≤ length old
  pub within_new : there ≤ length new
  pub counts : (row : Row) → times (take here old) row + times added row
      ≡ times (take there new) row + times removed row
  pub apart : (row : Row) → (times removed row ≡ 0) ⊎ (times added row ≡ 0)
  pub past_new : IsPast removed new there
  pub past_old : IsPast added old here
