-- What rows offer to begin with. All of it own.

use Rattle.std.specs.Prelude.{◌≡◌, ◌≢◌, ℕ, ◌+◌, ◌<◌, ◌^◌, ◌⊎◌, List, Some, None, true, false, is_some}
use Rattle.std.specs.List.{Contains}
use Rattle.spf_tree.specs.declared.row.Row.{Row}
use Rattle.spf_tree.specs.declared.label.Label.{Label}
use Rattle.spf_tree.specs.Walks.{start, end}
use Rattle.spf_tree.specs.Labels.{at}
use Rattle.spf_tree.specs.Search.{IsCovered, IsOffered}

-- the row has offered what it gives from its start's label
abbrev pub IsGiven : List Label → ℕ → Row → List (ℕ × ℕ) → List (ℕ × ℕ) → Type 0
IsGiven labels root row old new =
    ((at labels (start row) ≡ None) × (new ≡ old))
    ⊎ ((c : ℕ) × (at labels (start row) ≡ Some c)
    × IsOffered labels root (end row) (c + row.metric) old new)

-- the node has no label
abbrev pub IsOpen : List Label → ℕ → Type 0
IsOpen labels node = is_some (at labels node) ≡ false

-- it has where its end has no label
abbrev pub IsGivenIf : List Label → ℕ → Row → List (ℕ × ℕ) → List (ℕ × ℕ) → Type 0
IsGivenIf labels root row old new =
    (IsOpen labels (end row) × IsGiven labels root row old new)
    ⊎ ((is_some (at labels (end row)) ≡ true) × (new ≡ old))

-- each offer comes from a row whose start has a label
abbrev pub IsFed : List Row → ℕ → List Label → List (ℕ × ℕ) → Type 0
IsFed rows root labels queue =
    (offer : ℕ × ℕ) → Contains queue offer → (row : Row) × Contains rows row
    × ((c : ℕ) × (at labels (start row) ≡ Some c) × (end row ≢ root) × (end row ≡ offer.1)
    × (c + row.metric ≡ offer.0))

-- what the row gives is covered
abbrev pub IsOfferedOn : List Label → ℕ → List (ℕ × ℕ) → Row → Type 0
IsOfferedOn labels root queue row =
    (c : ℕ) → at labels (start row) ≡ Some c → end row ≢ root → c + row.metric < 2 ^ 64
    → IsCovered labels queue (end row) (c + row.metric)
