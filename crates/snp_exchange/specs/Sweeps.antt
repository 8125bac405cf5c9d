-- Ranges of LSP IDs that were taken, and what they cover (own).
use Rattle.std.specs.Prelude.{◌≡◌, ℕ, ◌+◌, ◌^◌, ◌<◌, ◌≤◌, nat_lt, nat_le, Bool, true, false, not, ◌&&◌, ◌||◌, List, [], ◌∷◌, if◌then◌else◌}
use Rattle.snp_exchange.specs.declared.sweep.Swept.{Swept}
use Rattle.snp_exchange.specs.declared.sweep.Swept.TheVariants as swept

-- the ranges that were taken, merged, and whether one was flagged
pub record SweepState : Type 0 where
  pub ranges : List (ℕ × ℕ)
  pub flagged : Bool

-- whether a number lies in a range, its ends included
abbrev pub in_range : ℕ → ℕ → ℕ → Bool
in_range start end n = nat_le start n && nat_le n end

-- whether a range has a number
abbrev pub covers : List (ℕ × ℕ) → ℕ → Bool
covers [] n = false
covers (range ∷ ranges) n = in_range range.0 range.1 n || covers ranges n

-- all LSP IDs are covered, or one isn't; it is clean where none was flagged
abbrev pub IsSwept : Swept → SweepState → Type 0
IsSwept swept.Partial s = (n : ℕ) × (n < 2 ^ 64) × (covers s.ranges n ≡ false)
IsSwept (swept.Whole clean) s =
    ((n : ℕ) → n < 2 ^ 64 → covers s.ranges n ≡ true) × (clean ≡ not s.flagged)

-- ranges in order, from a least number on, with a number between any two of them
abbrev pub AreApart : ℕ → List (ℕ × ℕ) → Type 0
AreApart least [] = Unit {0}
AreApart least (range ∷ ranges) =
    (least ≤ range.0) × (range.0 ≤ range.1) × AreApart (range.1 + 2) ranges

abbrev pub lesser : ℕ → ℕ → ℕ
lesser a b = if nat_lt a b then a else b

abbrev pub greater : ℕ → ℕ → ℕ
greater a b = if nat_lt a b then b else a

-- ranges with one more, which takes in those that it meets or touches
abbrev pub merge : List (ℕ × ℕ) → ℕ → ℕ → List (ℕ × ℕ)
merge [] start end = (start, end) ∷ []
merge (range ∷ ranges) start end =
    if nat_lt (range.1 + 1) start
    then range ∷ merge ranges start end
    else (if nat_lt (end + 1) range.0
    then (start, end) ∷ range ∷ ranges
    else merge ranges (lesser range.0 start) (greater range.1 end))

-- a range whose end is before its start has no number
abbrev pub merged : List (ℕ × ℕ) → ℕ → ℕ → List (ℕ × ℕ)
merged ranges start end = if nat_lt end start then ranges else merge ranges start end
