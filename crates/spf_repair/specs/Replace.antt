-- Rows taken out and put in, in one pass over all rows. All of it own.

use Rattle.std.specs.Prelude.{◌≡◌, ℕ, ◌+◌, ◌≤◌, ◌<◌, ◌^◌, ◌⊎◌, true, List, [], ◌∷◌, ◌++◌, length, take, slice_index_or}
use Rattle.std.specs.List.{All, Contains}
use Rattle.std.specs.List.Sorted.{IsNonDecreasingBy}
use Rattle.spf_tree.specs.declared.row.Row.{Row}
use Rattle.spf_tree.specs.Walks.{start}
use Rattle.spf_tree.specs.Graphs.{same_row, times}

-- the rows from a place on start at no node below this one
abbrev pub AreFrom : List Row → ℕ → ℕ → Type 0
AreFrom rows place node =
    (k : ℕ) (d : Row) → place ≤ k → k < length rows → node ≤ start (slice_index_or rows k d)

-- the first so many rows without the first so many removed ones, and with the first so many added ones, in order
pub record IsExchanged (rows removed added merged : List Row) (place found from : ℕ) : Type 0 where
  pub few_found : found ≤ length removed
  pub few_from : from ≤ length added
  pub counts : (x : Row) → times merged x + times (take found removed) x
      ≡ times (take place rows) x + times (take from added) x
  pub long : length merged + found ≡ place + from
  pub sorted : IsNonDecreasingBy start merged
  pub before_rows : (row : Row) → Contains merged row → AreFrom rows place (start row)
  pub before_added : (row : Row) → Contains merged row → AreFrom added from (start row)
  pub small : All (λ (row : Row). row.metric < 2 ^ 32) merged

-- so many first rows are the first of others
pub record HaveFirst (old rows : List Row) (many : ℕ) : Type 0 where
  pub within : many ≤ length rows
  pub each : (k : ℕ) (d : Row) → k < many → slice_index_or rows k d ≡ slice_index_or old k d

-- the row is the next removed one, or is kept
abbrev pub IsStripped : Row → List Row → ℕ → ℕ → List Row → List Row → Type 0
IsStripped row removed found now old new =
    ((now ≡ found + 1) × (found < length removed)
    × ((d : Row) → same_row row (slice_index_or removed found d) ≡ true) × (new ≡ old))
    ⊎ ((now ≡ found) × (new ≡ old ++ row ∷ []))
