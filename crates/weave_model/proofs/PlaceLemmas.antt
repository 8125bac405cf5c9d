-- Items of lists by their place, and which letter fits.
use Rattle.std.proofs.Common.{◌≡◌, ◌≢◌, ℕ, zero, suc, ◌==◌, ◌&&◌, not, ◌⊎◌, inl, inr, Bool, true, false, List, [], ◌∷◌, map, length, Option, Some, None, slice_get, refl, ap, ◌∙◌, subst, arith}
use Rattle.std.proofs.lemmas.Bool.Decides.{eqb_tells}
use Rattle.model_router.specs.Places.{nth}
use Rattle.model_network.specs.Networks.{numbered}
use Rattle.weave_core.specs.declared.moves.Sent.{Sent as CoreSent}
use Rattle.weave_core.specs.Fits.{fits}
use Rattle.weave_core.specs.Fronts.{numbered as core_numbered}

-- what stands at a place
pub record There {A : Type 0} (o : Option A) : Type 0 where
  pub item : A
  pub there : o ≡ Some item

pub there-too : {A B : Type 0} → (xs : List A) (ys : List B) (i : ℕ) (x : A) → slice_get xs i ≡ Some x → length ys ≡ length xs → There (slice_get ys i)
there-too [] ys i x e size = absurd (cc)
there-too (a ∷ xs) [] i x e size = absurd (omega (arith, size))
there-too (a ∷ xs) (b ∷ ys) zero x e size = record { item = b; there = refl }
there-too (a ∷ xs) (b ∷ ys) (suc i) x e size = there-too xs ys i x e (omega (arith, size))

-- what is numbered in a list of images is the image of what is numbered
pub record Image {A : Type 0} (f : A → CoreSent) (o : Option A) (s : CoreSent) : Type 0 where
  pub item : A
  pub there : o ≡ Some item
  pub image : f item ≡ s

image-at : {A : Type 0} → (f : A → CoreSent) (xs : List A) (i : ℕ) (s : CoreSent) → slice_get (map f xs) i ≡ Some s → Image f (nth xs i) s
image-at f [] i s e = absurd (cc)
image-at f (x ∷ xs) zero s e = record { item = x; there = refl; image = some-is (f x) s e }
  where
    or : CoreSent → Option CoreSent → CoreSent
    or d None = d
    or d (Some y) = y

    some-is : (a b : CoreSent) → Some a ≡ Some b → a ≡ b
    some-is a b h = ap (or a) h
image-at f (x ∷ xs) (suc i) s e = image-at f xs i s e

pub image-numbered : {A : Type 0} → (f : A → CoreSent) (xs : List A) (n : ℕ) (s : CoreSent) → core_numbered (map f xs) n ≡ Some s → Image f (numbered xs n) s
image-numbered f xs zero s e = absurd (cc)
image-numbered f xs (suc i) s e = image-at f xs i s e

at-image : {A : Type 0} → (f : A → CoreSent) (xs : List A) (i : ℕ) (x : A) → nth xs i ≡ Some x → slice_get (map f xs) i ≡ Some (f x)
at-image {A = A} f [] i x e = absurd (cc)
at-image {A = A} f (z ∷ xs) zero x e = ap of e
  where
    of : Option A → Option CoreSent
    of None = None
    of (Some y) = Some (f y)
at-image {A = A} f (z ∷ xs) (suc i) x e = at-image f xs i x e

pub numbered-image : {A : Type 0} → (f : A → CoreSent) (xs : List A) (n : ℕ) (x : A) → numbered xs n ≡ Some x → core_numbered (map f xs) n ≡ Some (f x)
numbered-image f xs zero x e = absurd (cc)
numbered-image f xs (suc i) x e = at-image f xs i x e

-- ---- what fits

pub record Fitting (party letter : ℕ) (s : CoreSent) : Type 0 where
  pub letter_is : s.letter ≡ letter
  pub other : s.sender ≢ party

pub fitting-is : (party letter : ℕ) (s : CoreSent) → fits party letter s ≡ true → Fitting party letter s
fitting-is party letter s e = by (eqb_tells s.letter letter) (eqb_tells s.sender party)
  where
    by : (((s.letter == letter) ≡ true) × (s.letter ≡ letter)) ⊎ (((s.letter == letter) ≡ false) × (s.letter ≢ letter)) → (((s.sender == party) ≡ true) × (s.sender ≡ party)) ⊎ (((s.sender == party) ≡ false) × (s.sender ≢ party)) → Fitting party letter s
    by (inl h) (inr k) = record { letter_is = h.1; other = k.1 }
    by (inl h) (inl k) = absurd (contra (subst (λ (b : Bool). not b ≡ true) k.0 (subst (λ (b : Bool). (b && not (s.sender == party)) ≡ true) h.0 e)))
      where
        contra : false ≡ true → ⊥
        contra x = cc
    by (inr h) k = absurd (contra (subst (λ (b : Bool). (b && not (s.sender == party)) ≡ true) h.0 e))
      where
        contra : false ≡ true → ⊥
        contra x = cc

pub is-fitting : (party letter : ℕ) (s : CoreSent) → s.letter ≡ letter → s.sender ≢ party → fits party letter s ≡ true
is-fitting party letter s same other = by (eqb_tells s.letter letter) (eqb_tells s.sender party)
  where
    by : (((s.letter == letter) ≡ true) × (s.letter ≡ letter)) ⊎ (((s.letter == letter) ≡ false) × (s.letter ≢ letter)) → (((s.sender == party) ≡ true) × (s.sender ≡ party)) ⊎ (((s.sender == party) ≡ false) × (s.sender ≢ party)) → fits party letter s ≡ true
    by (inl h) (inr k) = ap (λ (b : Bool). b && not (s.sender == party)) h.0 ∙ ap not k.0
    by (inl h) (inl k) = absurd (other k.1)
    by (inr h) k = absurd (h.1 same)
