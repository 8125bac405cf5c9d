-- A prefix with a cost as one number, by the prefix and then by the cost (own).
use Rattle.std.specs.Prelude.{ℕ, ◌+◌, ◌*◌, ◌^◌, ◌<◌, List}
use Rattle.std.specs.List.{AllByRecursion}

abbrev pub way_number : ℕ × ℕ → ℕ
way_number way = way.0 * 2 ^ 64 + way.1

-- each cost takes up to 64 bits
abbrev pub AreSmall : List (ℕ × ℕ) → Type 0
AreSmall ways = AllByRecursion (λ (way : ℕ × ℕ). way.1 < 2 ^ 64) ways
