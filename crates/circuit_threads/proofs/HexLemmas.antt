-- The hex text of octets, as the library writes it.
use Rattle.std.proofs.Common.{◌≡◌, ℕ, zero, suc, ◌/◌, ◌%◌, ◌<◌, ◌==◌, Bool, true, ◌&&◌, inl, inr, List, [], ◌∷◌, ◌++◌, slice_index, refl, ap, ◌∙◌, arith}
use Rattle.std.proofs.lemmas.Bool.{and_parts, cases_lt, eqb-true}
use Rattle.std.specs.List.{AllByRecursion}
use Rattle.std.specs.Char.{digit_char}
use Rattle.hex.specs.Hex.{lower_digits, encode_with, encode_lower}
use Rattle.isis_base.specs.Texts.{hex_pair}
use Rattle.circuit_threads.specs.JournalText.{hex_text}

-- the first n digits of the table are those that are written
abbrev are_alike : ℕ → Bool
are_alike zero = true
are_alike (suc n) = (slice_index lower_digits n == digit_char n) && are_alike n

alike-at : (n k : ℕ) → are_alike n ≡ true → k < n → slice_index lower_digits k ≡ digit_char k
alike-at zero k h lt = absurd (omega (arith, lt))
alike-at (suc n) k h lt =
    let parts = and_parts (slice_index lower_digits n == digit_char n) (are_alike n) h in
    elim (cases_lt k n) [
      | inl below ↦ alike-at n k parts.1 below
      | inr top ↦
          let e : k ≡ n = omega (arith, lt, top) in
          rw e (eqb-true (slice_index lower_digits n) (digit_char n) parts.0)
    ]

digit-at : (k : ℕ) → k < 16 → slice_index lower_digits k ≡ digit_char k
digit-at k lt = alike-at 16 k refl lt

pub hex-text : (octets : List ℕ) → AllByRecursion (λ octet. octet < 256) octets → encode_lower octets ≡ hex_text octets
unfolding encode_with
hex-text [] small = refl
hex-text (octet ∷ octets) small =
    let high : octet / 16 < 16 = omega (arith, small.0) in
    let low : octet % 16 < 16 = omega arith in
    ap (λ (d : ℕ). d ∷ slice_index lower_digits (octet % 16) ∷ encode_lower octets) (digit-at (octet / 16) high)
    ∙ (ap (λ (d : ℕ). digit_char (octet / 16) ∷ d ∷ encode_lower octets) (digit-at (octet % 16) low)
    ∙ ap (λ (ds : List ℕ). hex_pair octet ++ ds) (hex-text octets small.1))
