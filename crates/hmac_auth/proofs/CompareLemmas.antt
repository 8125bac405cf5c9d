-- Two digests compared over all their octets.
use Rattle.std.proofs.Common.{◌≡◌, ◌∙◌, ℕ, List, [], ◌∷◌, length, Bool, true, false, ◌&&◌, ◌⊎◌, eqb, refl, sym, ap, subst, arith}
use Rattle.std.specs.Prelude.{bit_or, bit_xor}
use Rattle.std.specs.Int.{bit_at}
use Rattle.std.specs.Str.{bytes_eq}
use Rattle.std.proofs.Math.Bool.{and_assoc}
use Rattle.std.specs.Int.Bits.{xor_self, or_zero_r}
use Rattle.std.proofs.lemmas.Nat.Bits.{same_from_bits, bit_at_or, bit_at_xor, bit_at-zero, bit_at-lt}
use Rattle.std.proofs.lemmas.Bool.Decides.{same_from_decides, Decides-like, Decides-and, Decides-eqb}

-- `|` is 0 where both are
or-none : (a b : ℕ) → bit_or a b ≡ 0 → (a ≡ 0) × (b ≡ 0)
or-none a b none =
    let both = λ (i : ℕ). sym (bit_at_or a b i) ∙ ap (λ (n : ℕ). bit_at n i) none ∙ bit_at-zero i in
    (same_from_bits a 0 (λ i. omega (arith, both i, bit_at-zero i)), same_from_bits b 0 (λ i. omega (arith, both i, bit_at-zero i)))

-- `^` is 0 where both are the same
xor-none : (a b : ℕ) → bit_xor a b ≡ 0 → a ≡ b
xor-none a b none =
    same_from_bits a b (λ i.
    let both = sym (bit_at_xor a b i) ∙ ap (λ (n : ℕ). bit_at n i) none ∙ bit_at-zero i in
    omega (arith, both, bit_at-lt a i, bit_at-lt b i))

none-differs : (d a : ℕ) → d ≡ 0 → bit_or d (bit_xor a a) ≡ 0
none-differs d a e = ap (bit_or d) (xor_self a) ∙ or_zero_r d ∙ e

differing-step : (d a b : ℕ) → eqb (bit_or d (bit_xor a b)) 0 ≡ (eqb d 0 && eqb a b)
differing-step d a b =
    same_from_decides _ _
    (Decides-like (eqb (bit_or d (bit_xor a b)) 0)
    (λ none. let both = or-none d (bit_xor a b) none in (both.0, xor-none a b both.1))
    (λ (none, same). subst (λ (x : ℕ). bit_or d (bit_xor a x) ≡ 0) same (none-differs d a none))
    (Decides-eqb (bit_or d (bit_xor a b)) 0))
    (Decides-and (eqb d 0) (eqb a b) (Decides-eqb d 0) (Decides-eqb a b))

-- one octet more on each side
pub same-more : (d a b : ℕ) (xs ys rest_a rest_b : List ℕ) (whole : Bool) → xs ≡ a ∷ rest_a → ys ≡ b ∷ rest_b → (eqb d 0 && bytes_eq xs ys) ≡ whole → (eqb (bit_or d (bit_xor a b)) 0 && bytes_eq rest_a rest_b) ≡ whole
same-more d a b xs ys rest_a rest_b whole first second h =
    ap (λ (t : Bool). t && bytes_eq rest_a rest_b) (differing-step d a b)
    ∙ and_assoc (eqb d 0) (eqb a b) (bytes_eq rest_a rest_b)
    ∙ (λ i. eqb d 0 && bytes_eq (sym first i) (sym second i))
    ∙ h

and-true : (t : Bool) → t ≡ (t && true)
and-true true = refl
and-true false = refl

-- no octet is left on one side, and so on neither
pub same-end : (d : ℕ) (xs ys : List ℕ) (whole : Bool) → length xs ≡ length ys → (xs ≡ []) ⊎ (ys ≡ []) → (eqb d 0 && bytes_eq xs ys) ≡ whole → eqb d 0 ≡ whole
same-end d [] [] whole size none h = and-true (eqb d 0) ∙ h
same-end d [] (y ∷ ys) whole size none h = absurd (omega arith)
same-end d (x ∷ xs) [] whole size none h = absurd (omega arith)
same-end d (x ∷ xs) (y ∷ ys) whole size none h = grind arith
