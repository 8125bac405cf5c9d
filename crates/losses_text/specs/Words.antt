-- How many losses, and which part of all schedules, words ask for (own).
use Rattle.std.specs.Prelude.{ℕ, ◌-◌, ◌==◌, nat_le, nat_lt, ◌&&◌, ◌||◌, List, [], ◌∷◌, Option, Some, None, if◌then◌else◌}
use Rattle.std.specs.List.{slice_split}
use Rattle.line_cuts.specs.Numerals.{number_to}
use Rattle.losses_text.specs.declared.part_words.PartOf.{PartOf}

-- the word K, a digit from 1 to 9 (own)
abbrev pub most_in : List ℕ → Option ℕ
most_in [] = None
most_in (digit ∷ []) = if nat_le 49 digit && nat_le digit 57 then Some (digit - 48) else None
most_in (digit ∷ next ∷ digits) = None

-- part I of M parts, where I is from 1 to M (own)
abbrev pub part_from : Option ℕ → Option ℕ → Option PartOf
part_from None of = None
part_from (Some number) None = None
part_from (Some number) (Some of) =
    if number == 0 || nat_lt of number then None else Some (record { number = number; of = of })

abbrev pub part_of_words : List (List ℕ) → Option PartOf
part_of_words [] = None
part_of_words (number ∷ []) = None
part_of_words (number ∷ of ∷ []) = part_from (number_to 65535 number) (number_to 65535 of)
part_of_words (number ∷ of ∷ next ∷ words) = None

-- the word `I/M`, whose numbers a slash parts (own)
abbrev pub part_in : List ℕ → Option PartOf
part_in word = part_of_words (slice_split (λ byte. byte == 47) word)
