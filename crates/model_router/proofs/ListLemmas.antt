-- Facts of lists: what holds of all items, and items by their place.
use Rattle.std.proofs.Common.{◌≡◌, ℕ, zero, suc, List, [], ◌∷◌, ◌++◌, take, drop, length, refl, ap}
use Rattle.std.specs.List.{AllByRecursion}
use Rattle.model_router.specs.Places.{with_nth}

pub all-map : {X : Type 0} → (P Q : X → Type 0) (xs : List X) → ((x : X) → P x → Q x) → AllByRecursion P xs → AllByRecursion Q xs
all-map P Q [] f all = tt
all-map P Q (x ∷ xs) f all = (f x all.0, all-map P Q xs f all.1)

pub all-append : {X : Type 0} → (P : X → Type 0) (xs ys : List X) → AllByRecursion P xs → AllByRecursion P ys → AllByRecursion P (xs ++ ys)
all-append P [] ys a b = b
all-append P (x ∷ xs) ys a b = (a.0, all-append P xs ys a.1 b)

pub all-take : {X : Type 0} → (P : X → Type 0) (n : ℕ) (xs : List X) → AllByRecursion P xs → AllByRecursion P (take n xs)
all-take P zero xs a = tt
all-take P (suc n) [] a = tt
all-take P (suc n) (x ∷ xs) a = (a.0, all-take P n xs a.1)

pub all-drop : {X : Type 0} → (P : X → Type 0) (n : ℕ) (xs : List X) → AllByRecursion P xs → AllByRecursion P (drop n xs)
all-drop P zero xs a = a
all-drop P (suc n) [] a = tt
all-drop P (suc n) (x ∷ xs) a = all-drop P n xs a.1

pub length-with_nth : {A : Type 0} → (xs : List A) (place : ℕ) (y : A) → length (with_nth xs place y) ≡ length xs
length-with_nth [] place y = refl
length-with_nth (x ∷ xs) zero y = refl
length-with_nth (x ∷ xs) (suc place) y = ap suc (length-with_nth xs place y)
