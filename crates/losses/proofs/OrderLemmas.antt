-- Worst costs are in one order, so that they are joined in any order.
use Rattle.std.proofs.Common.{◌≡◌, ℕ, ◌<◌, ◌==◌, nat_lt, ◌⊎◌, inl, inr, Bool, true, false, List, [], ◌∷◌, if◌then◌else◌, refl, sym, ap, ◌∙◌, subst, arith}
use Rattle.std.proofs.lemmas.Bool.{cases_eq}
use Rattle.std.proofs.lemmas.Bool.Decides.{nat_tests}
use Rattle.losses.specs.Parts.{is_sooner, Worst, is_worse, worse_of, Sum, joined, AreJoined}

differ : (b : Bool) → b ≡ true → b ≡ false → ⊥
differ true t f = let e : false ≡ true = sym f in grind (arith, nat_tests, e)
differ false t f = grind (arith, nat_tests, t)

-- ---- places

same : (x y : ℕ) (xs ys : List ℕ) → x ≡ y → is_sooner (x ∷ xs) (y ∷ ys) ≡ is_sooner xs ys
same x y xs ys e = let t : (x == y) ≡ true = grind (arith, nat_tests, e) in ap (λ (b : Bool). if b then is_sooner xs ys else nat_lt x y) t

other : (x y : ℕ) (xs ys : List ℕ) → (x ≡ y → ⊥) → is_sooner (x ∷ xs) (y ∷ ys) ≡ nat_lt x y
other x y xs ys n = let f : (x == y) ≡ false = grind (arith, nat_tests, n) in ap (λ (b : Bool). if b then is_sooner xs ys else nat_lt x y) f

pub not-before-none : (xs : List ℕ) → is_sooner xs [] ≡ false
not-before-none [] = refl
not-before-none (x ∷ xs) = refl

pub same-head : (p : ℕ) (xs ys : List ℕ) → is_sooner (p ∷ xs) (p ∷ ys) ≡ is_sooner xs ys
same-head p xs ys = same p p xs ys refl

pub later-head : (x p : ℕ) (xs ys : List ℕ) → p < x → is_sooner (x ∷ xs) (p ∷ ys) ≡ false
later-head x p xs ys h = other x p xs ys (λ e. omega (arith, h, e)) ∙ (let f : nat_lt x p ≡ false = grind (arith, nat_tests, h) in f)

asym : (xs ys : List ℕ) → is_sooner xs ys ≡ true → is_sooner ys xs ≡ false
asym [] [] h = refl
asym [] (y ∷ ys) h = refl
asym (x ∷ xs) [] h = absurd (differ (is_sooner (x ∷ xs) []) h refl)
asym (x ∷ xs) (y ∷ ys) h = by (cases_eq x y) (λ t. asym xs ys t)
  where
    by : ((x ≡ y) ⊎ (x ≡ y → ⊥)) → (is_sooner xs ys ≡ true → is_sooner ys xs ≡ false) → is_sooner (y ∷ ys) (x ∷ xs) ≡ false
    by (inl e) more = same y x ys xs (sym e) ∙ more (sym (same x y xs ys e) ∙ h)
    by (inr n) more = let l : nat_lt x y ≡ true = sym (other x y xs ys n) ∙ h in other y x ys xs (λ e. n (sym e)) ∙ (let f : nat_lt y x ≡ false = grind (arith, nat_tests, l) in f)

one : (xs ys : List ℕ) → is_sooner xs ys ≡ false → is_sooner ys xs ≡ false → xs ≡ ys
one [] [] h k = refl
one [] (y ∷ ys) h k = absurd (differ (is_sooner [] (y ∷ ys)) refl h)
one (x ∷ xs) [] h k = absurd (differ (is_sooner [] (x ∷ xs)) refl k)
one (x ∷ xs) (y ∷ ys) h k = by (cases_eq x y) (λ a b. one xs ys a b)
  where
    by : ((x ≡ y) ⊎ (x ≡ y → ⊥)) → (is_sooner xs ys ≡ false → is_sooner ys xs ≡ false → xs ≡ ys) → x ∷ xs ≡ y ∷ ys
    by (inl e) more = ap (λ (n : ℕ). n ∷ xs) e ∙ ap (λ (list : List ℕ). y ∷ list) (more (sym (same x y xs ys e) ∙ h) (sym (same y x ys xs (sym e)) ∙ k))
    by (inr n) more =
        let a : nat_lt x y ≡ false = sym (other x y xs ys n) ∙ h in
        let b : nat_lt y x ≡ false = sym (other y x ys xs (λ e. n (sym e))) ∙ k in
        absurd (n (grind (arith, nat_tests, a, b)))

trans : (xs ys zs : List ℕ) → is_sooner xs ys ≡ true → is_sooner ys zs ≡ true → is_sooner xs zs ≡ true
trans xs ys [] h k = absurd (differ (is_sooner ys []) k (not-before-none ys))
trans xs [] (z ∷ zs) h k = absurd (differ (is_sooner xs []) h (not-before-none xs))
trans [] (y ∷ ys) (z ∷ zs) h k = refl
trans (x ∷ xs) (y ∷ ys) (z ∷ zs) h k = by (cases_eq x y) (cases_eq y z) (λ a b. trans xs ys zs a b)
  where
    less : (x ≡ z → ⊥) → x < z → is_sooner (x ∷ xs) (z ∷ zs) ≡ true
    less n l = other x z xs zs n ∙ (let t : nat_lt x z ≡ true = grind (arith, nat_tests, l) in t)

    below : (m n : ℕ) → nat_lt m n ≡ true → m < n
    below m n e = grind (arith, nat_tests, e)

    by : ((x ≡ y) ⊎ (x ≡ y → ⊥)) → ((y ≡ z) ⊎ (y ≡ z → ⊥)) → (is_sooner xs ys ≡ true → is_sooner ys zs ≡ true → is_sooner xs zs ≡ true) → is_sooner (x ∷ xs) (z ∷ zs) ≡ true
    by (inl e) (inl f) more = same x z xs zs (e ∙ f) ∙ more (sym (same x y xs ys e) ∙ h) (sym (same y z ys zs f) ∙ k)
    by (inl e) (inr f) more = let l = below y z (sym (other y z ys zs f) ∙ k) in less (λ g. f (sym e ∙ g)) (omega (arith, e, l))
    by (inr e) (inl f) more = let l = below x y (sym (other x y xs ys e) ∙ h) in less (λ g. e (g ∙ sym f)) (omega (arith, f, l))
    by (inr e) (inr f) more =
        let l = below x y (sym (other x y xs ys e) ∙ h) in
        let m = below y z (sym (other y z ys zs f) ∙ k) in
        less (λ g. omega (arith, l, m, g)) (omega (arith, l, m))

-- ---- costs with places

as-much : (a b : Worst) → a.cost ≡ b.cost → is_worse a b ≡ is_sooner b.places a.places
as-much a b e = let t : (a.cost == b.cost) ≡ true = grind (arith, nat_tests, e) in ap (λ (c : Bool). if c then is_sooner b.places a.places else nat_lt a.cost b.cost) t

pub not-as-much : (a b : Worst) → (a.cost ≡ b.cost → ⊥) → is_worse a b ≡ nat_lt a.cost b.cost
not-as-much a b n = let f : (a.cost == b.cost) ≡ false = grind (arith, nat_tests, n) in ap (λ (c : Bool). if c then is_sooner b.places a.places else nat_lt a.cost b.cost) f

-- it isn't worse where it costs no more, and loses no sooner
pub no-worse : (a b : Worst) → nat_lt a.cost b.cost ≡ false → (a.cost ≡ b.cost → is_sooner b.places a.places ≡ false) → is_worse a b ≡ false
no-worse a b h k = by (cases_eq a.cost b.cost)
  where
    by : ((a.cost ≡ b.cost) ⊎ (a.cost ≡ b.cost → ⊥)) → is_worse a b ≡ false
    by (inl e) = as-much a b e ∙ k e
    by (inr n) = not-as-much a b n ∙ h

pub dearer : (a b : Worst) → nat_lt a.cost b.cost ≡ true → is_worse a b ≡ true
dearer a b h = not-as-much a b (λ e. let l : a.cost < b.cost = grind (arith, nat_tests, h) in omega (arith, e, l)) ∙ h

w-asym : (a b : Worst) → is_worse a b ≡ true → is_worse b a ≡ false
w-asym a b h = by (cases_eq a.cost b.cost)
  where
    by : ((a.cost ≡ b.cost) ⊎ (a.cost ≡ b.cost → ⊥)) → is_worse b a ≡ false
    by (inl e) = as-much b a (sym e) ∙ asym b.places a.places (sym (as-much a b e) ∙ h)
    by (inr n) = let l : nat_lt a.cost b.cost ≡ true = sym (not-as-much a b n) ∙ h in
        not-as-much b a (λ e. n (sym e)) ∙ (let f : nat_lt b.cost a.cost ≡ false = grind (arith, nat_tests, l) in f)

w-one : (a b : Worst) → is_worse a b ≡ false → is_worse b a ≡ false → a ≡ b
w-one a b h k = by (cases_eq a.cost b.cost)
  where
    by : ((a.cost ≡ b.cost) ⊎ (a.cost ≡ b.cost → ⊥)) → a ≡ b
    by (inl e) =
        ap (λ (n : ℕ). record { cost = n; places = a.places }) e
        ∙ ap (λ (ps : List ℕ). record { cost = b.cost; places = ps }) (one a.places b.places (sym (as-much b a (sym e)) ∙ k) (sym (as-much a b e) ∙ h))
    by (inr n) =
        let l : nat_lt a.cost b.cost ≡ false = sym (not-as-much a b n) ∙ h in
        let m : nat_lt b.cost a.cost ≡ false = sym (not-as-much b a (λ e. n (sym e))) ∙ k in
        absurd (n (grind (arith, nat_tests, l, m)))

w-trans : (a b c : Worst) → is_worse a b ≡ true → is_worse b c ≡ true → is_worse a c ≡ true
w-trans a b c h k = by (cases_eq a.cost b.cost) (cases_eq b.cost c.cost)
  where
    below : (m n : ℕ) → nat_lt m n ≡ true → m < n
    below m n e = grind (arith, nat_tests, e)

    less : a.cost < c.cost → is_worse a c ≡ true
    less l = dearer a c (grind (arith, nat_tests, l))

    by : ((a.cost ≡ b.cost) ⊎ (a.cost ≡ b.cost → ⊥)) → ((b.cost ≡ c.cost) ⊎ (b.cost ≡ c.cost → ⊥)) → is_worse a c ≡ true
    by (inl e) (inl f) = as-much a c (e ∙ f) ∙ trans c.places b.places a.places (sym (as-much b c f) ∙ k) (sym (as-much a b e) ∙ h)
    by (inl e) (inr f) = let l = below b.cost c.cost (sym (not-as-much b c f) ∙ k) in less (omega (arith, e, l))
    by (inr e) (inl f) = let l = below a.cost b.cost (sym (not-as-much a b e) ∙ h) in less (omega (arith, f, l))
    by (inr e) (inr f) =
        let l = below a.cost b.cost (sym (not-as-much a b e) ∙ h) in
        let m = below b.cost c.cost (sym (not-as-much b c f) ∙ k) in less (omega (arith, l, m))

w-neither : (a b c : Worst) → is_worse a b ≡ false → is_worse b c ≡ false → is_worse a c ≡ false
w-neither a b c h k = by (is_worse a c) (is_worse c b) refl refl
  where
    by : (p q : Bool) → is_worse a c ≡ p → is_worse c b ≡ q → is_worse a c ≡ false
    by false q e f = e
    by true true e f = absurd (differ (is_worse a b) (w-trans a c b e f) h)
    by true false e f = absurd (differ (is_worse a b) (subst (λ (x : Worst). is_worse a x ≡ true) (w-one c b f k) e) h)

-- ---- the worse of two

order : (a b : Worst) → worse_of a b ≡ worse_of b a
order a b = by (is_worse a b) (is_worse b a) refl refl
  where
    by : (p q : Bool) → is_worse a b ≡ p → is_worse b a ≡ q → (if p then b else a) ≡ (if q then a else b)
    by true true e f = absurd (differ (is_worse b a) f (w-asym a b e))
    by true false e f = refl
    by false true e f = refl
    by false false e f = w-one a b e f

groups : (a b c : Worst) → worse_of (worse_of a b) c ≡ worse_of a (worse_of b c)
groups a b c = by (is_worse a b) (is_worse b c) refl refl
  where
    by : (p q : Bool) → is_worse a b ≡ p → is_worse b c ≡ q → worse_of (if p then b else a) c ≡ worse_of a (if q then c else b)
    by true true e f = ap (λ (x : Bool). if x then c else b) f ∙ sym (ap (λ (x : Bool). if x then c else a) (w-trans a b c e f))
    by true false e f = ap (λ (x : Bool). if x then c else b) f ∙ sym (ap (λ (x : Bool). if x then b else a) e)
    by false true e f = refl
    by false false e f = ap (λ (x : Bool). if x then c else a) (w-neither a b c e f) ∙ sym (ap (λ (x : Bool). if x then b else a) e)

made : ℕ → ℕ → Worst → Sum
made n m w = record { schedules = n; apart = m; worst = w }

pub equal : (a b : Sum) → a.schedules ≡ b.schedules → a.apart ≡ b.apart → a.worst ≡ b.worst → a ≡ b
unfolding made
equal a b e f g = ap (λ (n : ℕ). made n a.apart a.worst) e ∙ ap (λ (n : ℕ). made b.schedules n a.worst) f ∙ ap (made b.schedules b.apart) g

pub are-joined : (a b c : Sum) → AreJoined a b c
are-joined a b c = record {
  order = equal (joined a b) (joined b a) (omega arith) (omega arith) (order a.worst b.worst);
  groups = equal (joined (joined a b) c) (joined a (joined b c)) (omega arith) (omega arith) (groups a.worst b.worst c.worst);
}
