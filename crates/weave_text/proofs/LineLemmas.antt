-- Lines that are written one after another.
use Rattle.std.proofs.Common.{◌≡◌, ◌∙◌, ℕ, zero, suc, ◌+◌, ◌≤◌, List, [], ◌∷◌, ◌++◌, drop, length, Some, None, refl, sym, ap, arith}
use Rattle.std.specs.List.{flat_map}
use Rattle.std.proofs.lemmas.List.{append_assoc, append-nil}
use Rattle.std.proofs.lemmas.List.Concat.{flat_map-cons}
use Rattle.model_router.specs.Places.{nth}

some-is : {X : Type 0} (x y : X) → Some x ≡ Some y → x ≡ y
some-is x y e = cc

-- ---- items by their places

at-place : {X : Type 0} (place : ℕ) (xs : List X) (x : X) → nth xs place ≡ Some x → drop place xs ≡ x ∷ drop (suc place) xs
at-place zero [] x e = absurd (cc e)
at-place zero (y ∷ xs) x e = ap (λ (z : _). z ∷ xs) (some-is y x e)
at-place (suc place) [] x e = absurd (cc e)
at-place (suc place) (y ∷ xs) x e = at-place place xs x e

past-end : {X : Type 0} (place : ℕ) (xs : List X) → nth xs place ≡ None → drop place xs ≡ []
past-end zero [] e = refl
past-end zero (y ∷ xs) e = absurd (cc e)
past-end (suc place) [] e = refl
past-end (suc place) (y ∷ xs) e = past-end place xs e

behind-all : {X : Type 0} (place : ℕ) (xs : List X) → length xs ≤ place → drop place xs ≡ []
behind-all zero [] h = refl
behind-all zero (y ∷ xs) h = absurd (omega (arith, h))
behind-all (suc place) [] h = refl
behind-all (suc place) (y ∷ xs) h = behind-all place xs (omega (arith, h))

-- an item more was written
pub turn : {X : Type 0} (f : X → List ℕ) (text new whole : List ℕ) (place : ℕ) (xs : List X) (x : X) → nth xs place ≡ Some x → new ≡ text ++ f x → text ++ flat_map f (drop place xs) ≡ whole → new ++ flat_map f (drop (place + 1) xs) ≡ whole
turn f text new whole place xs x at is h =
    ap (λ (t : List ℕ). t ++ flat_map f (drop (place + 1) xs)) is
    ∙ append_assoc text (f x) (flat_map f (drop (place + 1) xs))
    ∙ ap (λ (t : List ℕ). text ++ t) (sym (ap (flat_map f) (at-place place xs x at ∙ ap (λ (n : ℕ). x ∷ drop n xs) one) ∙ flat_map-cons f x (drop (place + 1) xs)))
    ∙ h
  where
    one : suc place ≡ place + 1
    one = omega arith

-- nothing is left to be written
pub stop : {X : Type 0} (f : X → List ℕ) (text whole : List ℕ) (place : ℕ) (xs : List X) → nth xs place ≡ None → text ++ flat_map f (drop place xs) ≡ whole → text ≡ whole
stop f text whole place xs none h = sym (append-nil text) ∙ ap (λ (ys : List _). text ++ flat_map f ys) (sym (past-end place xs none)) ∙ h

pub end : {X : Type 0} (f : X → List ℕ) (text whole : List ℕ) (place : ℕ) (xs : List X) → length xs ≤ place → text ++ flat_map f (drop place xs) ≡ whole → text ≡ whole
end f text whole place xs past h = sym (append-nil text) ∙ ap (λ (ys : List _). text ++ flat_map f ys) (sym (behind-all place xs past)) ∙ h
