-- A router's own prefixes in a list by their number (own).
use Rattle.std.specs.Prelude.{ℕ, List, Result, MatchResult}
use Rattle.isis_base.specs.declared.prefix.Prefix.{Prefix}
use Rattle.ordered.specs.Keyed.{IsPlace, IsGap}
use Rattle.isis_base.specs.Prefixes.{prefix_number}

-- the number of a prefix with its metric
abbrev pub own_number : Prefix × ℕ → ℕ
own_number own = prefix_number own.0

-- a place of the prefix, where it is one of the list, and else where it would go
abbrev pub IsPrefixAt : List (Prefix × ℕ) → ℕ → Result ℕ ℕ → Type 0
IsPrefixAt list number place =
    MatchResult place (IsPlace own_number list number) (IsGap own_number list number)
