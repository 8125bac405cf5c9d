-- Numbers read from texts of digits, and texts cut at marks.
use Rattle.std.proofs.Common.{◌≡◌, ◌≢◌, ℕ, zero, suc, ◌<◌, ◌^◌, Bool, true, cond, List, [], ◌∷◌, length, get_or, Option, Some, None, Result, Ok, Err, refl, sym, ap, ◌∙◌, arith, rules, inl, inr}
use Rattle.std.specs.Prelude.{option_and_then, nat_le}
use Rattle.std.specs.Char.{is_ascii_digit}
use Rattle.std.specs.List.{list_all}
use Rattle.std.specs.Result.{OkIff, result_ok}
use Rattle.std.specs.Str.{IsUtf8, IsAscii}
use Rattle.std.specs.Str.Parse.{digits_value, ParsesUnsigned}
use Rattle.std.proofs.lemmas.Bool.{and_parts, and_right, lt-leb, cases_lt}
use Rattle.std.proofs.lemmas.Bool.Decides.{nat_tests}
use Rattle.std.proofs.lemmas.Str.{IsUtf8-from_ascii}
use Rattle.std.proofs.lemmas.Str.Parse.{IsNumeralModel, numerals_by_value, parse_plain}
use Rattle.daemon_config.specs.Fields.{has_plain_lead, numeral_of, bounded, number_within, host_from, address_from}

abbrev pub AreDigits : List ℕ → Type 0
AreDigits ds = list_all is_ascii_digit ds ≡ true

pub own : IsNumeralModel AreDigits (digits_value 10)
own = numerals_by_value AreDigits (search rules)

no_plus : (word : List ℕ) → AreDigits word → get_or word 0 0 ≢ 43
no_plus [] h e = absurd (omega arith)
no_plus (c ∷ word) h e =
    let digit = and_parts (is_ascii_digit c) (list_all is_ascii_digit word) h in
    let plus : is_ascii_digit 43 ≡ true = ap is_ascii_digit (sym e) ∙ digit.0 in
    cc

some-length : (word : List ℕ) → has_plain_lead word ≡ true → 0 < length word
some-length [] h = cc
some-length (c ∷ word) h = omega arith

pub numbered : (word : List ℕ) → has_plain_lead word ≡ true → AreDigits word → numeral_of word ≡ Some (digits_value 10 word)
numbered word lead digits = rw (lead, digits) refl

too-great : (least most n : ℕ) → most < n → bounded least most n ≡ None
too-great least most n h = ap (λ (t : Bool). cond t (Some n) None) (and_right (nat_le least n) (nat_le n most) (lt-leb n most h))

from-parsed : {E : Type 0} (least most : ℕ) (word : List ℕ) (r : Result ℕ E) → most < 2 ^ 32 → has_plain_lead word ≡ true → AreDigits word → OkIff r (AreDigits word × (0 < length word) × (digits_value 10 word < 2 ^ 32)) (digits_value 10 word) → option_and_then (bounded least most) (result_ok r) ≡ number_within least most word
unfolding number_within
from-parsed least most word (Ok n) fits lead digits h = ap (λ (o : Option ℕ). option_and_then (bounded least most) o) (ap Some h.1 ∙ sym (numbered word lead digits))
from-parsed least most word (Err e) fits lead digits h =
    elim (cases_lt (digits_value 10 word) (2 ^ 32)) [
      | inl small ↦ absurd (h (digits, some-length word lead, small))
      | inr large ↦ sym (ap (λ (o : Option ℕ). option_and_then (bounded least most) o) (numbered word lead digits) ∙ too-great least most (digits_value 10 word) (omega (arith, large, fits)))
    ]

-- what `parse` answers of a text of digits is its number, within bounds of 32 bits
pub within-parsed : {E : Type 0} (least most : ℕ) (word : List ℕ) (r : Result ℕ E) → most < 2 ^ 32 → has_plain_lead word ≡ true → AreDigits word → ParsesUnsigned 32 10 word r → option_and_then (bounded least most) (result_ok r) ≡ number_within least most word
within-parsed least most word r fits lead digits h = from-parsed least most word r fits lead digits (parse_plain own 32 word r h (no_plus word digits))

digit-small : (c : ℕ) → is_ascii_digit c ≡ true → c < 128
digit-small c h = grind (arith, nat_tests)

digits-ascii : (word : List ℕ) → list_all is_ascii_digit word ≡ true → IsAscii word
digits-ascii [] h i = omega arith
digits-ascii (c ∷ word) h zero = digit-small c (and_parts (is_ascii_digit c) (list_all is_ascii_digit word) h).0
digits-ascii (c ∷ word) h (suc i) = digits-ascii word (and_parts (is_ascii_digit c) (list_all is_ascii_digit word) h).1 i

-- digits are text
pub digits-text : (word : List ℕ) → list_all is_ascii_digit word ≡ true → IsUtf8 word
digits-text word h = IsUtf8-from_ascii word (digits-ascii word h)

-- another number of parts is no host, and no address
pub not_four : (parts : List (List ℕ)) → length parts ≢ 4 → None ≡ host_from parts
not_four [] h = refl
not_four (a ∷ []) h = refl
not_four (a ∷ b ∷ []) h = refl
not_four (a ∷ b ∷ c ∷ []) h = refl
not_four (a ∷ b ∷ c ∷ d ∷ []) h = absurd (h refl)
not_four (a ∷ b ∷ c ∷ d ∷ e ∷ parts) h = refl

pub not_two : (parts : List (List ℕ)) → length parts ≢ 2 → None ≡ address_from parts
not_two [] h = refl
not_two (a ∷ []) h = refl
not_two (a ∷ b ∷ []) h = absurd (h refl)
not_two (a ∷ b ∷ c ∷ parts) h = refl
