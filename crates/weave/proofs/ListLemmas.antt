-- Items of lists by their places.
use Rattle.std.proofs.Common.{◌≡◌, ℕ, zero, suc, ◌+◌, ◌≤◌, List, [], ◌∷◌, ◌++◌, take, drop, length, Some, slice_get, refl, ap, subst, arith}
use Rattle.model_router.specs.Places.{nth}
use Rattle.weave_replay.proofs.PlaceLemmas.{some-is}

pub nth-slice : {X : Type 0} → (xs : List X) (i : ℕ) → slice_get xs i ≡ nth xs i
nth-slice [] i = refl
nth-slice (x ∷ xs) zero = refl
nth-slice (x ∷ xs) (suc i) = nth-slice xs i

-- the items from a place on begin with the one there
pub drop-one : {X : Type 0} → (xs : List X) (i : ℕ) (x : X) → nth xs i ≡ Some x → drop i xs ≡ x ∷ drop (i + 1) xs
drop-one {X = X} xs i x at = subst (λ (n : ℕ). drop i xs ≡ x ∷ drop n xs) e (by xs i at)
  where
    e : suc i ≡ i + 1
    e = omega arith

    by : (xs : List X) (i : ℕ) → nth xs i ≡ Some x → drop i xs ≡ x ∷ drop (suc i) xs
    by [] i at = absurd (cc)
    by (y ∷ xs) zero at = ap (λ (z : X). z ∷ xs) (some-is y x at)
    by (y ∷ xs) (suc i) at = by xs i at

-- an item with those before and those behind it
pub parts : {X : Type 0} → (xs : List X) (i : ℕ) (x : X) → nth xs i ≡ Some x → xs ≡ take i xs ++ (x ∷ drop (suc i) xs)
parts [] i x at = absurd (cc)
parts (y ∷ xs) zero x at = ap (λ z. z ∷ xs) (some-is y x at)
parts (y ∷ xs) (suc i) x at = ap (λ zs. y ∷ zs) (parts xs i x at)

pub taken : {X : Type 0} → (n : ℕ) (xs : List X) → n ≤ length xs → length (take n xs) ≡ n
taken zero xs h = refl
taken (suc n) [] h = absurd (omega (arith, h))
taken (suc n) (x ∷ xs) h = ap suc (taken n xs (omega (arith, h)))
