-- Counts of faults, and when they rose.
use Rattle.std.specs.Prelude.{ℕ, ◌+◌, ◌-◌, ◌^◌, ◌≤◌, min}

-- a count one higher, which stands still at its type's end (own)
abbrev pub one_more : ℕ → ℕ
one_more count = min (count + 1) (2 ^ 64 - 1)

-- a count of faults rose; one that stands at its last value counts as risen in every call (own)
abbrev pub Rose : ℕ → ℕ → Type 0
Rose before now = one_more before ≤ now
