-- Lists by their places, and which place leads to which.
use Rattle.std.proofs.Common.{◌≡◌, ℕ, zero, suc, ◌==◌, Bool, true, false, List, [], ◌∷◌, map, if◌then◌else◌, Option, Some, None, refl, sym, ap, ◌∙◌, subst, arith}
use Rattle.std.specs.Prelude.{slice_get}
use Rattle.std.specs.Option.{option_map}
use Rattle.std.specs.List.{Contains}
use Rattle.std.proofs.lemmas.Bool.Decides.{Decides-eqb}
use Rattle.std.proofs.lemmas.List.Elements.{Contains-append_right}
use Rattle.model_router.specs.Places.{nth}
use Rattle.trace_core.specs.declared.step.Step.{Step}
use Rattle.trace_core.specs.declared.step.Step.TheVariants.{On}
use Rattle.trace_core.specs.Traces.{AreMoves}
use Rattle.packet_trace.specs.Steps.{place_of}

pub some-same : {A : Type 0} (a b : A) → Some a ≡ Some b → a ≡ b
some-same a b e = cc

pub contains-nth : {X : Type 0} (xs : List X) (i : ℕ) (x : X) → nth xs i ≡ Some x → Contains xs x
contains-nth [] i x e = absurd (cc)
contains-nth (y ∷ xs) zero x e = (0, omega arith, some-same y x e)
contains-nth (y ∷ xs) (suc i) x e = let h = contains-nth xs i x e in (suc h.0, (let l = h.1 in omega (arith, l)), h.2)

pub contains-map : {X Y : Type 0} (f : X → Y) (xs : List X) (x : X) → Contains xs x → Contains (map f xs) (f x)
contains-map f [] x h = absurd (let l = h.1 in omega (arith, l))
contains-map f (y ∷ xs) x (zero, l, e) = (0, omega arith, ap f e)
contains-map f (y ∷ xs) x (suc k, l, e) = Contains-append_right (f y ∷ []) (map f xs) (f x) (contains-map f xs x (k, (omega (arith, l)), e))

pub of-map : {X Y : Type 0} (f : X → Y) (xs : List X) (y : Y) → Contains (map f xs) y → (x : X) × Contains xs x × (f x ≡ y)
of-map f [] y h = absurd (let l = h.1 in omega (arith, l))
of-map f (x ∷ xs) y (zero, l, e) = (x, (0, omega arith, refl), e)
of-map f (x ∷ xs) y (suc k, l, e) = let r = of-map f xs y (k, omega (arith, l), e) in (r.0, Contains-append_right (x ∷ []) xs r.0 r.1, r.2)

pub first-there : (xs : List ℕ) (x : ℕ) → slice_get xs 0 ≡ Some x → Contains xs x
first-there [] x e = absurd (cc)
first-there (y ∷ xs) x e = (0, omega arith, some-same y x e)

pub some-first : (xs : List ℕ) (x : ℕ) → Contains xs x → (y : ℕ) × (slice_get xs 0 ≡ Some y)
some-first [] x h = absurd (let l = h.1 in omega (arith, l))
some-first (y ∷ xs) x h = (y, refl)

pub slice-there : (xs : List ℕ) (i x : ℕ) → slice_get xs i ≡ Some x → Contains xs x
slice-there [] i x e = absurd (cc)
slice-there (y ∷ xs) zero x e = (0, omega arith, some-same y x e)
slice-there (y ∷ xs) (suc i) x e = Contains-append_right (y ∷ []) xs x (slice-there xs i x e)

-- ---- the place of a node

some-of : (o : Option ℕ) (p : ℕ) → option_map suc o ≡ Some p → (q : ℕ) × (o ≡ Some q) × (suc q ≡ p)
some-of None p e = absurd (cc)
some-of (Some q) p e = (q, refl, some-same (suc q) p e)

pub place-is : {X : Type 0} (root : X → ℕ) (xs : List X) (node p : ℕ) → place_of (map root xs) node ≡ Some p → (x : X) × (nth xs p ≡ Some x) × (root x ≡ node)
place-is root [] node p e = absurd (cc)
place-is {X} root (x ∷ xs) node p e = by (λ q h. place-is root xs node q h) (root x == node) refl e
  where
    by : ((q : ℕ) → place_of (map root xs) node ≡ Some q → (y : X) × (nth xs q ≡ Some y) × (root y ≡ node)) → (t : Bool) → (root x == node) ≡ t → (if t then Some 0 else option_map suc (place_of (map root xs) node)) ≡ Some p → (y : X) × (nth (x ∷ xs) p ≡ Some y) × (root y ≡ node)
    by more true t h = (x, ap (nth (x ∷ xs)) (sym (some-same 0 p h)), (Decides-eqb (root x) node).0 t)
    by more false t h =
        let s = some-of (place_of (map root xs) node) p h in
        let r = more s.0 s.1 in
        (r.0, ap (nth (x ∷ xs)) (sym s.2) ∙ r.1, r.2)

pub place-there : {X : Type 0} (root : X → ℕ) (xs : List X) (x : X) → Contains xs x → (p : ℕ) × (place_of (map root xs) (root x) ≡ Some p)
place-there root [] x h = absurd (let l = h.1 in omega (arith, l))
place-there {X} root (y ∷ xs) x h = by (λ k. place-there root xs x k) (root y == root x) refl h
  where
    differ : false ≡ true → ⊥
    differ k = cc

    by : (Contains xs x → (p : ℕ) × (place_of (map root xs) (root x) ≡ Some p)) → (t : Bool) → (root y == root x) ≡ t → Contains (y ∷ xs) x → (p : ℕ) × ((if t then Some 0 else option_map suc (place_of (map root xs) (root x))) ≡ Some p)
    by more true t h = (0, refl)
    by more false t (zero, l, e) = absurd (differ (sym t ∙ (Decides-eqb (root y) (root x)).1 (ap root e)))
    by more false t (suc k, l, e) = let r = more (k, omega (arith, l), e) in (suc r.0, ap (option_map suc) r.1)

-- ---- steps

pub on-one : (a b : ℕ) → On a ≡ On b → a ≡ b
on-one a b e = cc

-- each of the places leads to one of them
pub each : (Is : ℕ → Step → Type 0) (all : List ℕ) (from last next : ℕ) (more : List ℕ) → AreMoves Is from more last → ((p : ℕ) → Contains (from ∷ more) p → Contains all p) → Is last (On next) → Contains all next
    → (p : ℕ) → Contains (from ∷ more) p → (n : ℕ) × Is p (On n) × Contains all n
each Is all from last next [] m in' on back p (zero, low, is) = (next, subst (λ (q : ℕ). Is q (On next)) (m ∙ is) on, back)
each Is all from last next [] m in' on back p (suc k, low, is) = absurd (omega (arith, low))
each Is all from last next (x ∷ more) m in' on back p (zero, low, is) = (x, subst (λ (q : ℕ). Is q (On x)) is m.0, in' x (1, omega arith, refl))
each Is all from last next (x ∷ more) m in' on back p (suc k, low, is) =
    each Is all x last next more m.1 (λ q h. in' q (Contains-append_right (from ∷ []) (x ∷ more) q h)) on back p (k, omega (arith, low), is)
