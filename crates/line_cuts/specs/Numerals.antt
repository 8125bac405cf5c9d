-- Decimal numbers without sign or leading zero (own).
use Rattle.std.specs.Prelude.{ℕ, ◌^◌, ◌==◌, ◌&&◌, not, nat_lt, nat_le, Bool, true, false, List, [], ◌∷◌, Option, Some, None, option_and_then, if◌then◌else◌}
use Rattle.std.specs.List.{list_all}
use Rattle.std.specs.Char.{is_ascii_digit}
use Rattle.std.specs.Str.Parse.{digits_value}

-- there is something, and no 0 before another digit
abbrev pub has_plain_lead : List ℕ → Bool
has_plain_lead [] = false
has_plain_lead (first ∷ []) = true
has_plain_lead (first ∷ second ∷ rest) = not (first == 48)

-- a decimal number without sign or leading zero (own)
abbrev pub is_numeral : List ℕ → Bool
is_numeral word = has_plain_lead word && list_all is_ascii_digit word

-- the number that a word writes, up to 128 bits (own)
abbrev pub numeral_of : List ℕ → Option ℕ
numeral_of word =
    if is_numeral word
    then (if nat_lt (digits_value 10 word) (2 ^ 128) then Some (digits_value 10 word) else None)
    else None

-- a number up to the greatest
abbrev pub number_to : ℕ → List ℕ → Option ℕ
number_to greatest word =
    option_and_then (λ n. if nat_le n greatest then Some n else None) (numeral_of word)
