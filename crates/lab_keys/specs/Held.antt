-- Entries in the order of their LSP IDs, and a copy joined in (own).
use Rattle.std.specs.Prelude.{◌≡◌, ℕ, ◌<◌, ◌≤◌, ◌⊎◌, List, length, slice_index_or, Some, Contains}
use Rattle.isis_base.specs.declared.identifiers.LspId.{LspId}
use Rattle.isis_base.specs.declared.key.Key.{Key}
use Rattle.isis_base.specs.Identifiers.{lsp_number}
use Rattle.isis_base.specs.Keys.{rank}

-- the elements rise by this number, so no two have one number
pub record IsRising {X : Type 0} (number : X → ℕ) (xs : List X) : Type 0 where
  pub below : (i j : ℕ) (d : X) → i < j → j < length xs
      → number (slice_index_or xs i d) < number (slice_index_or xs j d)

abbrev pub entry_number : LspId × Key → ℕ
entry_number entry = lsp_number entry.0

-- the place has the entry of this number
pub record IsPlaceOf (entries : List (LspId × Key)) (number place : ℕ) : Type 0 where
  pub inside : place < length entries
  pub here : (d : LspId × Key) → entry_number (slice_index_or entries place d) ≡ number

-- no element has this number: those before the place have lesser ones, and those from it on greater ones
pub record IsGap {X : Type 0} (number : X → ℕ) (xs : List X) (n place : ℕ) : Type 0 where
  pub inside : place ≤ length xs
  pub low : (k : ℕ) (d : X) → k < place → number (slice_index_or xs k d) < n
  pub high : (k : ℕ) (d : X) → place ≤ k → k < length xs → n < number (slice_index_or xs k d)

-- some entry has the LSP ID of this copy, and a key that is as new or newer
abbrev pub HoldsAsNew : List (LspId × Key) → LspId × Key → Type 0
HoldsAsNew entries copy =
    (entry : LspId × Key) × Contains entries entry × (entry_number entry ≡ entry_number copy)
    × (rank (Some copy.1) ≤ rank (Some entry.1))

-- the new entries are of the old ones and this copy, of each LSP ID the newest
pub record Joins (old new : List (LspId × Key)) (copy : LspId × Key) : Type 0 where
  pub rising : IsRising entry_number new
  pub among : (entry : LspId × Key) → Contains new entry → Contains old entry ⊎ (entry ≡ copy)
  pub old_covered : (entry : LspId × Key) → Contains old entry → HoldsAsNew new entry
  pub copy_covered : HoldsAsNew new copy
