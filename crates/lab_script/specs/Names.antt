-- Names in the order in which lines give them.
use Rattle.std.specs.Prelude.{ℕ, List, Option}
use Rattle.std.specs.List.{position_from}
use Rattle.std.specs.Str.{bytes_eq}

-- the number of a name: its place in the list of names (own)
abbrev pub number_of_name : List (List ℕ) → List ℕ → Option ℕ
number_of_name names name = position_from (λ other. bytes_eq other name) 0 names
