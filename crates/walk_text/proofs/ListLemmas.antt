-- Lists by their places, tests of their items, and how many pass.
use Rattle.std.proofs.Common.{◌≡◌, ℕ, zero, suc, ◌+◌, ◌<◌, Bool, true, false, ◌||◌, List, [], ◌∷◌, ◌++◌, map, if◌then◌else◌, Some, refl, sym, ap, ◌∙◌, subst, arith, inl, inr}
use Rattle.std.specs.Prelude.{MatchBool}
use Rattle.std.proofs.lemmas.Bool.{cases_lt}
use Rattle.std.specs.List.{Contains, list_any, count_by}
use Rattle.std.proofs.lemmas.List.Sums.{sum_by-cons}
use Rattle.model_router.specs.Places.{nth}
use Rattle.network_lab.proofs.PlaceLemmas.{some-same}

-- ---- places

pub contains-nth : {X : Type 0} (xs : List X) (i : ℕ) (x : X) → nth xs i ≡ Some x → Contains xs x
contains-nth [] i x e = absurd (cc)
contains-nth (y ∷ xs) zero x e = (0, omega arith, some-same y x e)
contains-nth (y ∷ xs) (suc i) x e = let h = contains-nth xs i x e in (suc h.0, (let l = h.1 in omega (arith, l)), h.2)

pub nth-contains : {X : Type 0} (xs : List X) (x : X) → Contains xs x → (i : ℕ) × (nth xs i ≡ Some x)
nth-contains [] x h = absurd (let l = h.1 in omega (arith, l))
nth-contains (y ∷ xs) x (zero, l, e) = (0, ap Some e)
nth-contains (y ∷ xs) x (suc k, l, e) = let h = nth-contains xs x (k, (omega (arith, l)), e) in (suc h.0, h.1)

pub contains-here : {X : Type 0} (x : X) (xs : List X) → Contains (x ∷ xs) x
contains-here x xs = (0, omega arith, refl)

pub contains-behind : {X : Type 0} (y : X) (xs : List X) (x : X) → Contains xs x → Contains (y ∷ xs) x
contains-behind y xs x h = (suc h.0, (let l = h.1 in omega (arith, l)), h.2)

pub contains-of : {X : Type 0} (y : X) (xs : List X) (x : X) → Contains (y ∷ xs) x → (P : Type 0) → (y ≡ x → P) → (Contains xs x → P) → P
contains-of y xs x (zero, l, e) P f g = f e
contains-of y xs x (suc k, l, e) P f g = g (k, (omega (arith, l)), e)

pub contains-map : {X Y : Type 0} (f : X → Y) (xs : List X) (x : X) → Contains xs x → Contains (map f xs) (f x)
contains-map f [] x h = absurd (let l = h.1 in omega (arith, l))
contains-map f (y ∷ xs) x (zero, l, e) = (0, omega arith, ap f e)
contains-map f (y ∷ xs) x (suc k, l, e) = contains-behind (f y) (map f xs) (f x) (contains-map f xs x (k, (omega (arith, l)), e))

-- ---- tests

pub any-contains : {X : Type 0} (p : X → Bool) (xs : List X) → list_any p xs ≡ true → (x : X) × Contains xs x × (p x ≡ true)
any-contains p [] e = absurd (cc)
any-contains {X} p (x ∷ xs) e = by (any-contains p xs) (p x) refl
  where
    by : (list_any p xs ≡ true → (y : X) × Contains xs y × (p y ≡ true)) → (t : Bool) → p x ≡ t → (y : X) × Contains (x ∷ xs) y × (p y ≡ true)
    by more true t = (x, contains-here x xs, t)
    by more false t = let h = more (sym (ap (λ (b : Bool). b || list_any p xs) t) ∙ e) in (h.0, contains-behind x xs h.0 h.1, h.2)

pub contains-any : {X : Type 0} (p : X → Bool) (xs : List X) (x : X) → Contains xs x → p x ≡ true → list_any p xs ≡ true
contains-any p [] x h t = absurd (let l = h.1 in omega (arith, l))
contains-any p (y ∷ xs) x (zero, l, e) t = ap (λ (b : Bool). b || list_any p xs) (ap p e ∙ t)
contains-any p (y ∷ xs) x (suc k, l, e) t = ap (λ (b : Bool). p y || b) (contains-any p xs x (k, (omega (arith, l)), e) t) ∙ or-true (p y)
  where
    or-true : (b : Bool) → (b || true) ≡ true
    or-true true = refl
    or-true false = refl

-- ---- counts

count-more : {X : Type 0} (p : X → Bool) (x : X) (xs : List X) → count_by p (x ∷ xs) ≡ (if p x then 1 else 0) + count_by p xs
count-more p x xs = sum_by-cons (λ x. if p x then 1 else 0) x xs

pub none-passes : {X : Type 0} (p : X → Bool) (xs : List X) → count_by p xs ≡ 0 → (x : X) → Contains xs x → p x ≡ true → ⊥
none-passes p [] e x h t = let l = h.1 in omega (arith, l)
none-passes p (y ∷ xs) e x h t = by (λ n rest. none-passes p xs n x rest t) (p y) refl
  where
    by : (count_by p xs ≡ 0 → Contains xs x → ⊥) → (b : Bool) → p y ≡ b → ⊥
    by more true b = let n : 1 + count_by p xs ≡ 0 = sym (ap (λ (b : Bool). (if b then 1 else 0) + count_by p xs) b) ∙ (sym (count-more p y xs) ∙ e) in omega (arith, n)
    by more false b =
        let m : 0 + count_by p xs ≡ 0 = sym (ap (λ (b : Bool). (if b then 1 else 0) + count_by p xs) b) ∙ (sym (count-more p y xs) ∙ e) in
        let n : count_by p xs ≡ 0 = omega (arith, m) in
        contains-of y xs x h ⊥ (λ same. let clash : true ≡ false = sym t ∙ (ap p (sym same) ∙ b) in absurd (cc)) (λ rest. more n rest)

-- just one passes
pub one-passes : {X : Type 0} (p : X → Bool) (xs : List X) → count_by p xs ≡ 1 → (x : X) × Contains xs x × (p x ≡ true) × ((y : X) → Contains xs y → p y ≡ true → y ≡ x)
one-passes p [] e = absurd (omega (arith, e))
one-passes {X} p (x ∷ xs) e = by (one-passes p xs) (p x) refl
  where
    by : (count_by p xs ≡ 1 → (z : X) × Contains xs z × (p z ≡ true) × ((y : X) → Contains xs y → p y ≡ true → y ≡ z))
        → (b : Bool) → p x ≡ b → (z : X) × Contains (x ∷ xs) z × (p z ≡ true) × ((y : X) → Contains (x ∷ xs) y → p y ≡ true → y ≡ z)
    by more true b =
        let n : 1 + count_by p xs ≡ 1 = sym (ap (λ (b : Bool). (if b then 1 else 0) + count_by p xs) b) ∙ (sym (count-more p x xs) ∙ e) in
        let none : count_by p xs ≡ 0 = omega (arith, n) in
        (x, contains-here x xs, b, λ y h t. contains-of x xs y h (y ≡ x) (λ same. sym same) (λ rest. absurd (none-passes p xs none y rest t)))
    by more false b =
        let m : 0 + count_by p xs ≡ 1 = sym (ap (λ (b : Bool). (if b then 1 else 0) + count_by p xs) b) ∙ (sym (count-more p x xs) ∙ e) in
        let n : count_by p xs ≡ 1 = omega (arith, m) in
        let r = more n in
        (r.0, contains-behind x xs r.0 r.1, r.2, λ y h t. contains-of x xs y h (y ≡ r.0) (λ same. absurd (let clash : true ≡ false = sym t ∙ (ap p (sym same) ∙ b) in cc)) (λ rest. r.3 y rest t))

-- ---- an item more at the end

pub contains-last : {X : Type 0} (xs : List X) (y : X) → Contains (xs ++ (y ∷ [])) y
contains-last [] y = contains-here y []
contains-last (x ∷ xs) y = contains-behind x (xs ++ (y ∷ [])) y (contains-last xs y)

pub contains-before : {X : Type 0} (xs : List X) (y x : X) → Contains xs x → Contains (xs ++ (y ∷ [])) x
contains-before [] y x h = absurd (let l = h.1 in omega (arith, l))
contains-before (z ∷ xs) y x (zero, l, e) = (0, omega arith, e)
contains-before (z ∷ xs) y x (suc k, l, e) = contains-behind z (xs ++ (y ∷ [])) x (contains-before xs y x (k, (omega (arith, l)), e))

pub of-snoc : {X : Type 0} (xs : List X) (y x : X) → Contains (xs ++ (y ∷ [])) x → (P : Type 0) → (Contains xs x → P) → (y ≡ x → P) → P
of-snoc [] y x (zero, l, e) P f g = g e
of-snoc [] y x (suc k, l, e) P f g = absurd (omega (arith, l))
of-snoc (z ∷ xs) y x (zero, l, e) P f g = f (0, omega arith, e)
of-snoc (z ∷ xs) y x (suc k, l, e) P f g = of-snoc xs y x (k, (omega (arith, l)), e) P (λ h. f (contains-behind z xs x h)) g

-- ---- cases

pub match-true : (P Q : Type 0) (b : Bool) → MatchBool b P Q → b ≡ true → P
match-true P Q true m e = m
match-true P Q false m e = absurd (cc)

pub match-false : (P Q : Type 0) (b : Bool) → MatchBool b P Q → b ≡ false → Q
match-false P Q true m e = absurd (cc)
match-false P Q false m e = m

-- what holds before a place and at it holds up to it
pub up-to : (P : ℕ → Type 0) (n : ℕ) → ((q : ℕ) → q < n → P q) → P n → (q : ℕ) → q < n + 1 → P q
up-to P n before at q less = elim (cases_lt q n) [
  | inl low ↦ before q low
  | inr high ↦ (let same : n ≡ q = omega (arith, high, less) in subst P same at)
]
