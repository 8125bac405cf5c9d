-- Words that write octets in hex (own).
use Rattle.std.specs.Prelude.{ℕ, Bool, List}
use Rattle.std.specs.List.{list_all}
use Rattle.line_cuts.specs.HexTexts.{is_octets}

-- each word writes octets
abbrev pub are_octets : List (List ℕ) → Bool
are_octets words = list_all is_octets words
