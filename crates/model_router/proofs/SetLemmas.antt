-- Which circuits are in a set that was changed.
use Rattle.std.proofs.Common.{◌≡◌, ℕ, ◌+◌, ◌%◌, ◌^◌, ◌<◌, min, max, ◌==◌, eqb, Bool, false, not, ◌&&◌, ◌||◌, ap, ◌∙◌, arith, bit_and}
use Rattle.std.specs.Int.{bit_at}
use Rattle.std.proofs.lemmas.Bool.Decides.{nat_tests}
use Rattle.std.proofs.lemmas.Nat.Bits.{bit_at_or, bit_at_and, bit_at_xor, bit_at-pow_same, bit_at-pow_other, bit_at-lt, bit_at-zero}
use Rattle.model_router.specs.Sets.{has, with_one, without, only}

-- bits as truth values
or-bit : (a b : ℕ) → a < 2 → b < 2 → eqb (max a b) 1 ≡ (eqb b 1 || eqb a 1)
or-bit a b h k = grind (arith, nat_tests)

and-bit : (a b : ℕ) → a < 2 → b < 2 → eqb (min a b) 1 ≡ (eqb b 1 && eqb a 1)
and-bit a b h k = grind (arith, nat_tests)

less-bit : (a b : ℕ) → a < 2 → b < 2 → eqb ((a + min a b) % 2) 1 ≡ (not (eqb b 1) && eqb a 1)
less-bit a b h k = grind (arith, nat_tests)

pow-test : (p q : ℕ) → eqb (bit_at (2 ^ p) q) 1 ≡ eqb p q
pow-test p q = grind (arith, nat_tests, bit_at-pow_same p, bit_at-pow_other p q)

pub has-with_one : (set place q : ℕ) → has (with_one set place) q ≡ (place == q || has set q)
unfolding has with_one
has-with_one s p q =
    ap (λ (n : ℕ). eqb n 1) (bit_at_or s (2 ^ p) q) ∙ or-bit (bit_at s q) (bit_at (2 ^ p) q) (bit_at-lt s q) (bit_at-lt (2 ^ p) q) ∙ ap (λ (t : Bool). t || eqb (bit_at s q) 1) (pow-test p q)

pub has-only : (set place q : ℕ) → has (only set place) q ≡ (place == q && has set q)
unfolding has only
has-only s p q =
    ap (λ (n : ℕ). eqb n 1) (bit_at_and s (2 ^ p) q) ∙ and-bit (bit_at s q) (bit_at (2 ^ p) q) (bit_at-lt s q) (bit_at-lt (2 ^ p) q) ∙ ap (λ (t : Bool). t && eqb (bit_at s q) 1) (pow-test p q)

pub has-without : (set place q : ℕ) → has (without set place) q ≡ (not (place == q) && has set q)
unfolding has without
has-without s p q =
    ap (λ (n : ℕ). eqb n 1) (bit_at_xor s (bit_and s (2 ^ p)) q ∙ ap (λ (n : ℕ). (bit_at s q + n) % 2) (bit_at_and s (2 ^ p) q)) ∙ less-bit (bit_at s q) (bit_at (2 ^ p) q) (bit_at-lt s q) (bit_at-lt (2 ^ p) q) ∙ ap (λ (t : Bool). not t && eqb (bit_at s q) 1) (pow-test p q)

pub has-none : (q : ℕ) → has 0 q ≡ false
unfolding has
has-none q = ap (λ (n : ℕ). eqb n 1) (bit_at-zero q)
