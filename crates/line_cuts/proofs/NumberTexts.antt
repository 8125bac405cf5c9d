-- Numbers are read from what is written of them.
use Rattle.std.proofs.Common.{◌≡◌, ◌∙◌, ℕ, zero, suc, ◌%◌, ◌+◌, ◌<◌, ◌≤◌, ◌^◌, Bool, true, false, cond, ltb, List, [], ◌∷◌, ◌++◌, length, get_or, Option, Some, None, refl, ap, subst, arith, inl, inr}
use Rattle.std.specs.Prelude.{decimal, codes, nat_le, option_and_then}
use Rattle.std.specs.Char.{is_ascii_digit}
use Rattle.std.specs.List.{list_all}
use Rattle.std.specs.Str.{bytes_eq}
use Rattle.std.proofs.lemmas.Fmt.{decimal_is_IsNumeral_wide, decimal_by_steps_wide}
use Rattle.std.proofs.lemmas.List.{length-append}
use Rattle.std.proofs.lemmas.Bool.{cases_Bool, le-leb, lt-ltb, false≢true}
use Rattle.std.proofs.lemmas.Slice.Eq.{bytes_eq-Decides}
use Rattle.std.proofs.lemmas.Bool.Decides.{nat_tests}
use Rattle.line_cuts.specs.Numerals.{has_plain_lead, numeral_of, number_to}
use Rattle.line_cuts.proofs.NumeralLemmas.{own, numbered}

first-of_append : (ds : List ℕ) (d : ℕ) → 0 < length ds → get_or (ds ++ d ∷ []) 0 0 ≡ get_or ds 0 0
first-of_append [] d h = absurd (omega arith)
first-of_append (c ∷ ds) d h = refl

led : (n : ℕ) → n < 10 ^ 64 → (0 < length (decimal n)) × (0 < n → 48 < get_or (decimal n) 0 0) × (n < 10 → length (decimal n) ≡ 1)
led = decimal_by_steps_wide (λ m ds. (0 < length ds) × (0 < m → 48 < get_or ds 0 0) × (m < 10 → length ds ≡ 1)) (λ m l. (omega arith, λ a. omega arith, λ a. omega arith))
    (λ m ds l h. (omega (arith, length-append ds ((48 + m % 10) ∷ [])), λ a. omega (arith, first-of_append ds (48 + m % 10) h.0, h.1 (omega arith)), λ a. omega arith))

plain : (ds : List ℕ) → 0 < length ds → 48 < get_or ds 0 0 → has_plain_lead ds ≡ true
plain [] s f = absurd (omega arith)
plain (c ∷ []) s f = refl
plain (c ∷ d ∷ ds) s f = grind (arith, nat_tests)

plain-one : (ds : List ℕ) → length ds ≡ 1 → has_plain_lead ds ≡ true
plain-one [] s = absurd (omega arith)
plain-one (c ∷ []) s = refl
plain-one (c ∷ d ∷ ds) s = absurd (omega arith)

lead : (n : ℕ) → n < 10 ^ 64 → has_plain_lead (decimal n) ≡ true
lead zero h = plain-one (decimal 0) ((led 0 h).2 (omega arith))
lead (suc n) h = plain (decimal (suc n)) (led (suc n) h).0 ((led (suc n) h).1 (omega arith))

-- a number is read from what is written of it
pub numeral_of-decimal : (n : ℕ) → n < 2 ^ 128 → numeral_of (decimal n) ≡ Some n
numeral_of-decimal n h =
    let wide : n < 10 ^ 64 = omega arith in
    let d = decimal_is_IsNumeral_wide n wide in
    numbered (decimal n) (lead n wide) (own.from (decimal n) d.0.1)
    ∙ ap (λ (v : ℕ). cond (ltb v (2 ^ 128)) (Some v) None) d.1
    ∙ ap (λ (t : Bool). cond t (Some n) None) (lt-ltb n (2 ^ 128) h)

pub number_to-decimal : (greatest n : ℕ) → n ≤ greatest → n < 2 ^ 128 → number_to greatest (decimal n) ≡ Some n
number_to-decimal greatest n h wide =
    ap (λ (o : Option ℕ). option_and_then (λ m. cond (nat_le m greatest) (Some m) None) o) (numeral_of-decimal n wide)
    ∙ ap (λ (t : Bool). cond {A = Option ℕ} t (Some n) None) (le-leb n greatest h)

-- a number isn't the word `none`
pub decimal-none : (n : ℕ) → n < 10 ^ 64 → bytes_eq (decimal n) (codes "none") ≡ false
decimal-none n h =
    let digits : list_all is_ascii_digit (decimal n) ≡ true = own.from (decimal n) (decimal_is_IsNumeral_wide n h).0.1 in
    elim (cases_Bool (bytes_eq (decimal n) (codes "none"))) [
      | inl same ↦
          (let bad : false ≡ true = subst (λ (word : List ℕ). list_all is_ascii_digit word ≡ true) ((bytes_eq-Decides (decimal n) (codes "none")).0 same) digits in
          absurd (false≢true bad))
      | inr apart ↦ apart
    ]
