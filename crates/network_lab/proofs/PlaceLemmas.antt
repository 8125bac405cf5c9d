-- Lists by their places.
use Rattle.std.proofs.Common.{◌≡◌, ◌≢◌, ℕ, zero, suc, ◌<◌, List, [], ◌∷◌, map, get_or, length, Option, Some, IfSome, Bool, true, false, eqb, if◌then◌else◌, refl, sym, ap, ◌∙◌, subst, arith}
use Rattle.std.specs.Prelude.{slice_set, slice_get}
use Rattle.std.proofs.lemmas.Bool.Decides.{nat_tests}
use Rattle.std.specs.Option.{option_map}
use Rattle.model_router.specs.Places.{nth, with_nth}
use Rattle.model_router.proofs.BookLemmas.{same-or}
use Rattle.model_router.proofs.TouchLemmas.{nth-with_nth}
use Rattle.model_network.specs.Networks.{numbered}

pub if-yes : {A : Type 0} (x y : A) (t : Bool) → t ≡ true → (if t then x else y) ≡ x
if-yes x y t e = ap (λ b. if b then x else y) e

pub if-no : {A : Type 0} (x y : A) (t : Bool) → t ≡ false → (if t then x else y) ≡ y
if-no x y t e = ap (λ b. if b then x else y) e

pub self : (n : ℕ) → eqb n n ≡ true
self n = grind (arith, nat_tests)

pub differ : (m n : ℕ) → m ≢ n → eqb m n ≡ false
differ m n h = same-or (λ t. t ≡ false) m n (λ e. absurd (h e)) (λ _. refl)

pub some-same : {A : Type 0} (a b : A) → Some a ≡ Some b → a ≡ b
some-same a b e = cc

pub nth-set : {A : Type 0} (xs : List A) (i : ℕ) (r t : A) → nth xs i ≡ Some r → nth (with_nth xs i t) i ≡ Some t
nth-set xs i r t e = nth-with_nth xs i t i ∙ if-yes _ _ _ (self i) ∙ ap (option_map (λ (_ : _). t)) e

pub nth-other : {A : Type 0} (xs : List A) (i : ℕ) (t : A) (j : ℕ) → i ≢ j → nth (with_nth xs i t) j ≡ nth xs j
nth-other xs i t j n = nth-with_nth xs i t j ∙ if-no _ _ _ (differ i j n)

pub nth-there : {A : Type 0} (xs : List A) (i : ℕ) → i < length xs → (x : A) × (nth xs i ≡ Some x)
nth-there [] i h = absurd (omega (arith, h))
nth-there (x ∷ xs) zero h = (x, refl)
nth-there (x ∷ xs) (suc i) h = nth-there xs i (omega (arith, h))

pub nth-less : {A : Type 0} (xs : List A) (i : ℕ) (x : A) → nth xs i ≡ Some x → i < length xs
nth-less [] i x e = absurd (cc)
nth-less (y ∷ xs) zero x e = omega arith
nth-less (y ∷ xs) (suc i) x e = let h = nth-less xs i x e in omega (arith, h)

pub nth-slice_get : {A : Type 0} (xs : List A) (i : ℕ) → slice_get xs i ≡ nth xs i
nth-slice_get [] i = refl
nth-slice_get (x ∷ xs) zero = refl
nth-slice_get (x ∷ xs) (suc i) = nth-slice_get xs i

pub nth-map : {A B : Type 0} (f : A → B) (xs : List A) (i : ℕ) → nth (map f xs) i ≡ option_map f (nth xs i)
nth-map f [] i = refl
nth-map f (x ∷ xs) zero = refl
nth-map f (x ∷ xs) (suc i) = nth-map f xs i

pub numbered-map : {A B : Type 0} (f : A → B) (xs : List A) (n : ℕ) → numbered (map f xs) n ≡ option_map f (numbered xs n)
numbered-map f xs zero = refl
numbered-map f xs (suc i) = nth-map f xs i

pub map-with : {A B : Type 0} (f : A → B) (xs : List A) (i : ℕ) (y : A) → map f (with_nth xs i y) ≡ with_nth (map f xs) i (f y)
map-with f [] i y = refl
map-with f (x ∷ xs) zero y = refl
map-with f (x ∷ xs) (suc i) y = ap (λ (zs : _). f x ∷ zs) (map-with f xs i y)

pub length-with : {A : Type 0} (xs : List A) (i : ℕ) (y : A) → length (with_nth xs i y) ≡ length xs
length-with [] i y = refl
length-with (x ∷ xs) zero y = refl
length-with (x ∷ xs) (suc i) y = ap suc (length-with xs i y)

pub with-same : {A : Type 0} (xs : List A) (i : ℕ) (y : A) → nth xs i ≡ Some y → with_nth xs i y ≡ xs
with-same [] i y e = refl
with-same (x ∷ xs) zero y e = ap (λ (z : _). z ∷ xs) (cc)
with-same (x ∷ xs) (suc i) y e = ap (λ (zs : _). x ∷ zs) (with-same xs i y e)

pub set-with : {A : Type 0} (xs : List A) (i : ℕ) (y : A) → i < length xs → slice_set xs i y ≡ with_nth xs i y
set-with [] i y h = absurd (omega (arith, h))
set-with (x ∷ xs) zero y h = refl
set-with (x ∷ xs) (suc i) y h = ap (λ (zs : _). x ∷ zs) (set-with xs i y (omega (arith, h)))

-- the item at a place, as an index gives it
pub nth-get : {A : Type 0} (xs : List A) (i : ℕ) (x : A) → i < length xs → x ≡ get_or xs i x → nth xs i ≡ Some x
nth-get [] i x h e = absurd (omega (arith, h))
nth-get (y ∷ xs) zero x h e = ap Some (sym e)
nth-get (y ∷ xs) (suc i) x h e = nth-get xs i x (omega (arith, h)) e

-- what holds of an item that stands at a place holds of the place
pub at-place : {A : Type 0} (Q : A → Type 0) (xs : List A) (i : ℕ) (x : A) → i < length xs → x ≡ get_or xs i x → Q x → IfSome (nth xs i) Q
at-place Q xs i x h e q = subst (λ (o : Option _). IfSome o Q) (sym (nth-get xs i x h e)) q

-- and the other way round
pub of-place : {A : Type 0} (Q : A → Type 0) (o : Option A) (x : A) → o ≡ Some x → IfSome o Q → Q x
of-place Q o x e q = subst (λ (o : Option _). IfSome o Q) e q

pub to-place : {A : Type 0} (Q : A → Type 0) (o : Option A) (x : A) → o ≡ Some x → Q x → IfSome o Q
to-place Q o x e q = subst (λ (o : Option _). IfSome o Q) (sym e) q

-- one item changes, but not in this
pub set-keeps : {A B : Type 0} (f : A → B) (xs : List A) (i : ℕ) (x y : A) → i < length xs → x ≡ get_or xs i x → f y ≡ f x → map f (slice_set xs i y) ≡ map f xs
set-keeps f [] i x y h e same = absurd (omega (arith, h))
set-keeps f (z ∷ xs) zero x y h e same = ap (λ (b : _). b ∷ map f xs) (same ∙ ap f e)
set-keeps f (z ∷ xs) (suc i) x y h e same = ap (λ (bs : List _). f z ∷ bs) (set-keeps f xs i x y (omega (arith, h)) e same)
