-- Decimal numbers.
use Rattle.std.proofs.Common.{◌≡◌, ◌≢◌, ℕ, zero, suc, ◌<◌, ◌^◌, Bool, true, cond, ltb, List, [], ◌∷◌, length, get_or, Some, None, Result, Ok, Err, sym, ap, ◌∙◌, arith, rules, inl, inr}
use Rattle.std.specs.Char.{is_ascii_digit}
use Rattle.std.specs.List.{list_all}
use Rattle.std.specs.Result.{OkIff, result_ok}
use Rattle.std.specs.Str.{IsUtf8, IsAscii}
use Rattle.std.specs.Str.Parse.{digits_value, ParsesUnsigned}
use Rattle.std.proofs.lemmas.Bool.{and_parts, lt-ltb, le-ltb, cases_lt}
use Rattle.std.proofs.lemmas.Bool.Decides.{nat_tests}
use Rattle.std.proofs.lemmas.Str.{IsUtf8-from_ascii}
use Rattle.std.proofs.lemmas.Str.Parse.{IsNumeralModel, numerals_by_value, parse_plain}
use Rattle.line_cuts.specs.Numerals.{has_plain_lead, numeral_of}

abbrev pub AreDigits : List ℕ → Type 0
AreDigits ds = list_all is_ascii_digit ds ≡ true

pub own : IsNumeralModel AreDigits (digits_value 10)
own = numerals_by_value AreDigits (search rules)

no_plus : (word : List ℕ) → AreDigits word → get_or word 0 0 ≢ 43
no_plus [] h e = absurd (omega arith)
no_plus (c ∷ word) h e =
    let digit = and_parts (is_ascii_digit c) (list_all is_ascii_digit word) h in
    let plus : is_ascii_digit 43 ≡ true = ap is_ascii_digit (sym e) ∙ digit.0 in
    cc

some-length : (word : List ℕ) → has_plain_lead word ≡ true → 0 < length word
some-length [] h = cc
some-length (c ∷ word) h = omega arith

pub numbered : (word : List ℕ) → has_plain_lead word ≡ true → list_all is_ascii_digit word ≡ true → numeral_of word ≡ cond (ltb (digits_value 10 word) (2 ^ 128)) (Some (digits_value 10 word)) None
numbered word lead digits = rw (lead, digits)

from-parsed : {E : Type 0} (word : List ℕ) (r : Result ℕ E) → has_plain_lead word ≡ true → list_all is_ascii_digit word ≡ true → OkIff r (AreDigits word × (0 < length word) × (digits_value 10 word < 2 ^ 128)) (digits_value 10 word) → result_ok r ≡ numeral_of word
from-parsed word (Ok n) lead digits h = sym (numbered word lead digits ∙ ap (λ (t : Bool). cond t (Some (digits_value 10 word)) None) (lt-ltb _ _ h.0.2) ∙ ap Some (sym h.1))
from-parsed word (Err e) lead digits h =
    elim (cases_lt (digits_value 10 word) (2 ^ 128)) [
      | inl small ↦ absurd (h (digits, some-length word lead, small))
      | inr large ↦ sym (numbered word lead digits ∙ ap (λ (t : Bool). cond t (Some (digits_value 10 word)) None) (le-ltb _ _ large))
    ]

-- what `parse` answers of a word of digits is its number
pub numeral_of-parsed : {E : Type 0} (word : List ℕ) (r : Result ℕ E) → has_plain_lead word ≡ true → list_all is_ascii_digit word ≡ true → ParsesUnsigned 128 10 word r → result_ok r ≡ numeral_of word
numeral_of-parsed word r lead digits h = from-parsed word r lead digits (parse_plain own 128 word r h (no_plus word digits))

digit-small : (c : ℕ) → is_ascii_digit c ≡ true → c < 128
digit-small c h = grind (arith, nat_tests)

digits-ascii : (word : List ℕ) → list_all is_ascii_digit word ≡ true → IsAscii word
digits-ascii [] h i = omega arith
digits-ascii (c ∷ word) h zero = digit-small c (and_parts (is_ascii_digit c) (list_all is_ascii_digit word) h).0
digits-ascii (c ∷ word) h (suc i) = digits-ascii word (and_parts (is_ascii_digit c) (list_all is_ascii_digit word) h).1 i

-- a word of digits is text
pub digits-text : (word : List ℕ) → list_all is_ascii_digit word ≡ true → IsUtf8 word
digits-text word h = IsUtf8-from_ascii word (digits-ascii word h)
