-- Items of lists by their places.
use Rattle.std.proofs.Common.{◌≡◌, ◌≢◌, ℕ, zero, suc, ◌+◌, ◌<◌, ◌≤◌, ◌⊎◌, inl, inr, List, [], ◌∷◌, ◌++◌, map, take, length, get_or, Option, Some, None, slice_get, refl, sym, ap, ◌∙◌, subst, arith}
use Rattle.model_router.specs.Places.{nth, with_nth}

pub some-is : {A : Type 0} → (x y : A) → Some x ≡ Some y → x ≡ y
some-is {A = A} x y e = ap of e
  where
    of : Option A → A
    of None = x
    of (Some z) = z

-- what stands at a place
pub record There {A : Type 0} (o : Option A) : Type 0 where
  pub item : A
  pub there : o ≡ Some item

pub there : {A : Type 0} → (xs : List A) (i : ℕ) → i < length xs → There (nth xs i)
there [] i within = absurd (omega (arith, within))
there (x ∷ xs) zero within = record { item = x; there = refl }
there (x ∷ xs) (suc i) within = there xs i (omega (arith, within))

pub within : {A : Type 0} → (xs : List A) (i : ℕ) (x : A) → nth xs i ≡ Some x → i < length xs
within [] i x at = absurd (cc)
within (y ∷ xs) zero x at = omega arith
within (y ∷ xs) (suc i) x at = let h = within xs i x at in omega (arith, h)

-- the item at a place, as an index gives it
pub nth-get : {A : Type 0} → (xs : List A) (i : ℕ) (x : A) → i < length xs → x ≡ get_or xs i x → nth xs i ≡ Some x
nth-get [] i x h e = absurd (omega (arith, h))
nth-get (y ∷ xs) zero x h e = ap Some (sym e)
nth-get (y ∷ xs) (suc i) x h e = nth-get xs i x (omega (arith, h)) e

-- an item of images
pub nth-map : {A B : Type 0} → (f : A → B) (xs : List A) (i : ℕ) (x : A) → nth xs i ≡ Some x → nth (map f xs) i ≡ Some (f x)
nth-map f [] i x at = absurd (cc)
nth-map f (y ∷ xs) zero x at = ap (λ z. Some (f z)) (some-is y x at)
nth-map f (y ∷ xs) (suc i) x at = nth-map f xs i x at

-- one item changes
pub at-same : {A : Type 0} → (xs : List A) (i : ℕ) (x y : A) → nth xs i ≡ Some x → nth (with_nth xs i y) i ≡ Some y
at-same [] i x y at = absurd (cc)
at-same (z ∷ xs) zero x y at = refl
at-same (z ∷ xs) (suc i) x y at = at-same xs i x y at

pub at-other : {A : Type 0} → (xs : List A) (i : ℕ) (y : A) (k : ℕ) → i ≢ k → nth (with_nth xs i y) k ≡ nth xs k
at-other [] i y k h = refl
at-other (z ∷ xs) zero y zero h = absurd (h refl)
at-other (z ∷ xs) zero y (suc k) h = refl
at-other (z ∷ xs) (suc i) y zero h = refl
at-other (z ∷ xs) (suc i) y (suc k) h = at-other xs i y k (λ e. h (ap suc e))

-- ---- the first so many

pub take-more : {A : Type 0} → (xs : List A) (i : ℕ) (x : A) → nth xs i ≡ Some x → take (i + 1) xs ≡ take i xs ++ x ∷ []
take-more {A = A} xs i x at = subst (λ (n : ℕ). take n xs ≡ take i xs ++ x ∷ []) e (by xs i at)
  where
    e : suc i ≡ i + 1
    e = omega arith

    by : (xs : List A) (i : ℕ) → nth xs i ≡ Some x → take (suc i) xs ≡ take i xs ++ x ∷ []
    by [] i at = absurd (cc)
    by (y ∷ xs) zero at = ap (λ (z : A). z ∷ []) (some-is y x at)
    by (y ∷ xs) (suc i) at = ap (λ (zs : List A). y ∷ zs) (by xs i at)

pub nth-take : {A : Type 0} → (xs : List A) (n i : ℕ) → i < n → nth (take n xs) i ≡ nth xs i
nth-take xs zero i h = absurd (omega (arith, h))
nth-take [] (suc n) i h = refl
nth-take (x ∷ xs) (suc n) zero h = refl
nth-take (x ∷ xs) (suc n) (suc i) h = nth-take xs n i (omega (arith, h))

pub take-take : {A : Type 0} → (xs : List A) (n i : ℕ) → i ≤ n → take i (take n xs) ≡ take i xs
take-take xs n zero h = refl
take-take xs zero (suc i) h = absurd (omega (arith, h))
take-take [] (suc n) (suc i) h = refl
take-take (x ∷ xs) (suc n) (suc i) h = ap (λ zs. x ∷ zs) (take-take xs n i (omega (arith, h)))

-- an item of a list with one more
pub in-more : {A : Type 0} → (xs : List A) (y : A) (i : ℕ) (x : A) → nth (xs ++ y ∷ []) i ≡ Some x → ((i < length xs) × (nth xs i ≡ Some x)) ⊎ ((i ≡ length xs) × (y ≡ x))
in-more [] y zero x at = inr (refl, some-is y x at)
in-more [] y (suc i) x at = absurd (cc)
in-more (z ∷ xs) y zero x at = inl (omega arith, at)
in-more {A = A} (z ∷ xs) y (suc i) x at = by (in-more xs y i x at)
  where
    by : ((i < length xs) × (nth xs i ≡ Some x)) ⊎ ((i ≡ length xs) × (y ≡ x)) → ((suc i < suc (length xs)) × (nth xs i ≡ Some x)) ⊎ ((suc i ≡ suc (length xs)) × (y ≡ x))
    by (inl (lt, e)) = inl (omega (arith, lt), e)
    by (inr (e, same)) = inr (ap suc e, same)

-- what stands between two parts
pub nth-between : {A : Type 0} → (xs : List A) (y : A) (ys : List A) → nth (xs ++ y ∷ ys) (length xs) ≡ Some y
nth-between [] y ys = refl
nth-between (x ∷ xs) y ys = nth-between xs y ys

pub take-before : {A : Type 0} → (xs ys : List A) → take (length xs) (xs ++ ys) ≡ xs
take-before [] ys = refl
take-before (x ∷ xs) ys = ap (λ zs. x ∷ zs) (take-before xs ys)

pub take-part : {A : Type 0} → (xs ys : List A) (i : ℕ) → i ≤ length xs → take i (xs ++ ys) ≡ take i xs
take-part xs ys zero h = refl
take-part [] ys (suc i) h = absurd (omega (arith, h))
take-part (x ∷ xs) ys (suc i) h = ap (λ zs. x ∷ zs) (take-part xs ys i (omega (arith, h)))

-- two lists that have the same at each place
pub lists-same : {A : Type 0} → (xs ys : List A) → length xs ≡ length ys → ((k : ℕ) → k < length xs → slice_get xs k ≡ slice_get ys k) → xs ≡ ys
lists-same [] [] size h = refl
lists-same [] (y ∷ ys) size h = absurd (omega (arith, size))
lists-same (x ∷ xs) [] size h = absurd (omega (arith, size))
lists-same {A = A} (x ∷ xs) (y ∷ ys) size h =
    ap (λ (zs : List A). x ∷ zs) (lists-same xs ys (omega (arith, size)) (λ k l. h (suc k) (omega (arith, l))))
    ∙ ap (λ (z : A). z ∷ ys) (some-is x y (h 0 (omega arith)))
