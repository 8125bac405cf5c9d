-- Single bits of an octet, and the low bits of an address.
use Rattle.std.proofs.Common.{◌≡◌, ℕ, zero, suc, ◌+◌, ◌*◌, ◌/◌, ◌%◌, ◌^◌, ◌<◌, ◌≤◌, eqb, refl, ap, ◌∙◌, arith}
use Rattle.std.specs.Prelude.{not, bit_and}
use Rattle.std.specs.Int.{bit_at}
use Rattle.std.proofs.lemmas.Nat.Bits.{and_pow, bit_at-lt}
use Rattle.std.proofs.lemmas.Nat.{shr_split, mod_low, pow_pos}

bit-test : (bit : ℕ) → bit < 2 → not (eqb (bit * 64) 0) ≡ eqb bit 1
bit-test zero h = refl
bit-test (suc zero) h = refl
bit-test (suc (suc n)) h = absurd (omega arith)

-- the mark for sub-TLVs is bit 6
pub subs-mark : (control : ℕ) → not (eqb (bit_and control 64) 0) ≡ eqb (bit_at control 6) 1
subs-mark control = ap (λ (n : ℕ). not (eqb n 0)) (and_pow control 6) ∙ bit-test (bit_at control 6) (bit_at-lt control 6)

-- a number with its last bits cleared has none of them
pub cleared_mod : (n k : ℕ) → n < 18446744073709551616 → n / 2 ^ k * 2 ^ k % 18446744073709551616 % 2 ^ k ≡ 0
cleared_mod n k small =
    let below : n / 2 ^ k * 2 ^ k ≤ n = omega (arith, shr_split n k) in
    let same : n / 2 ^ k * 2 ^ k % 18446744073709551616 ≡ n / 2 ^ k * 2 ^ k + 0 = omega arith in
    ap (λ (m : ℕ). m % 2 ^ k) same ∙ mod_low (n / 2 ^ k) k 0 (pow_pos k)
