-- Items of a list by their place.
use Rattle.std.proofs.Common.{◌≡◌, ◌≢◌, ℕ, zero, suc, List, [], ◌∷◌, Some, slice_get, set, refl, arith}

pub slice_get-set : {A : Type 0} → (xs : List A) (i : ℕ) (x y : A) → slice_get xs i ≡ Some x → slice_get (set xs i y) i ≡ Some y
slice_get-set [] i x y e = absurd (cc)
slice_get-set (z ∷ xs) zero x y e = refl
slice_get-set (z ∷ xs) (suc i) x y e = slice_get-set xs i x y e

pub slice_get-set_other : {A : Type 0} → (xs : List A) (i q : ℕ) (y : A) → q ≢ i → slice_get (set xs i y) q ≡ slice_get xs q
slice_get-set_other [] i q y n = refl
slice_get-set_other (z ∷ xs) zero zero y n = absurd (n refl)
slice_get-set_other (z ∷ xs) zero (suc q) y n = refl
slice_get-set_other (z ∷ xs) (suc i) zero y n = refl
slice_get-set_other (z ∷ xs) (suc i) (suc q) y n = slice_get-set_other xs i q y (λ (e : q ≡ i). n (omega (arith, e)))
