-- Counts by number, where a number behind the last counts nothing (own).
use Rattle.std.specs.Prelude.{◌≡◌, ℕ, ◌+◌, ◌==◌, ◌||◌, Bool, false, List, [], ◌∷◌, slice_index_or, slice_set}
use Rattle.std.specs.List.{list_any}

-- the same counts
abbrev pub CountsSame : List ℕ → List ℕ → Type 0
CountsSame old new = (i : ℕ) → slice_index_or new i 0 ≡ slice_index_or old i 0

-- one more at a place
abbrev pub one_more : List ℕ → ℕ → List ℕ
one_more counts place = slice_set counts place (slice_index_or counts place 0 + 1)

-- some number stands twice
abbrev pub has_twice : List ℕ → Bool
has_twice [] = false
has_twice (n ∷ ns) = list_any (λ other. other == n) ns || has_twice ns
