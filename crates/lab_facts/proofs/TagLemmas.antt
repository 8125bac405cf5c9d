-- Routers by their labels, one router more.
use Rattle.std.proofs.Common.{◌≡◌, ℕ, zero, suc, ◌+◌, ◌<◌, ◌≤◌, ◌==◌, ◌&&◌, ◌⊎◌, ⊎_elim, inl, inr, Bool, true, false, List, [], ◌∷◌, ◌++◌, length, map, set, slice_get, slice_index, Some, if◌then◌else◌, refl, sym, ap, ap₂, ◌∙◌, subst, arith, add-one, append-nil, zero-le}
use Rattle.std.proofs.lemmas.Bool.{cases_eq, false≢true}
use Rattle.std.proofs.lemmas.Bool.Decides.{nat_tests}
use Rattle.std.proofs.lemmas.List.{length-map, length-set, get_or-set_same, get_or-set_other}
use Rattle.std.proofs.lemmas.Option.{none-some, same_Some, slice_get_within}
use Rattle.lab_facts.specs.Joined.{In, Rises}
use Rattle.lab_facts.specs.Tags.{is_on, has_label, labelled, firsts, with_router, AreTags, AreGrouped}
use Rattle.lab_facts.proofs.LabelLemmas.{in-left, in-right, in-last}

-- ---- lists

pub rises-in : (least : ℕ) (xs : List ℕ) (x : ℕ) → Rises least xs → In x xs → least ≤ x
rises-in least [] x h i = absurd i
rises-in least (y ∷ xs) x h i = ⊎_elim (λ (e : x ≡ y). omega (arith, e, h.0)) (λ (j : In x xs). let k = rises-in (y + 1) xs x h.1 j in omega (arith, k, h.0)) i

pub get-in : {X : Type 0} (xs : List X) (k : ℕ) (x : X) → slice_get xs k ≡ Some x → In x xs
get-in [] k x e = absurd (none-some x e)
get-in (y ∷ xs) zero x e = inl (sym (same_Some y x e))
get-in (y ∷ xs) (suc k) x e = inr (get-in xs k x e)

pub rises-last : (least : ℕ) (xs : List ℕ) (n : ℕ) → Rises least xs → ((x : ℕ) → In x xs → x < n) → least ≤ n → Rises least (xs ++ n ∷ [])
rises-last least [] n h below le = (le, tt)
rises-last least (y ∷ xs) n h below le = (h.0, rises-last (y + 1) xs n h.1 (λ x i. below x (inr i)) (omega (arith, below y (inl refl))))

get-left : {X : Type 0} (xs ys : List X) (k : ℕ) (x : X) → slice_get xs k ≡ Some x → slice_get (xs ++ ys) k ≡ Some x
get-left [] ys k x e = absurd (none-some x e)
get-left (y ∷ xs) ys zero x e = e
get-left (y ∷ xs) ys (suc k) x e = get-left xs ys k x e

get-last : {X : Type 0} (xs : List X) (x : X) → slice_get (xs ++ x ∷ []) (length xs) ≡ Some x
get-last [] x = refl
get-last (y ∷ xs) x = get-last xs x

-- ---- tests

and-true : (a b : Bool) → (a && b) ≡ true → (a ≡ true) × (b ≡ true)
and-true true true e = (refl, refl)
and-true true false e = absurd (cc)
and-true false b e = absurd (cc)

and-from : (a b : Bool) → a ≡ true → b ≡ true → (a && b) ≡ true
and-from a b e f = cc

and-off : (a b : Bool) → a ≡ false → (a && b) ≡ false
and-off a b e = cc

and-not : (a b : Bool) → b ≡ false → (a && b) ≡ false
and-not true b e = e
and-not false b e = refl

eq-from : (a b : ℕ) → (a == b) ≡ true → a ≡ b
eq-from a b e = grind (arith, nat_tests)

eq-to : (a b : ℕ) → a ≡ b → (a == b) ≡ true
eq-to a b e = grind (arith, nat_tests)

eq-not : (a b : ℕ) → (a ≡ b → ⊥) → (a == b) ≡ false
eq-not a b ne = grind (arith, nat_tests)

pub label-on : (runs : List Bool) (labels : List ℕ) (l r : ℕ) → has_label runs labels l r ≡ true → is_on (slice_get runs r) ≡ true
label-on runs labels l r e = (and-true (is_on (slice_get runs r)) (slice_index labels r == l) e).0

pub label-is : (runs : List Bool) (labels : List ℕ) (l r : ℕ) → has_label runs labels l r ≡ true → slice_index labels r ≡ l
label-is runs labels l r e = eq-from (slice_index labels r) l (and-true (is_on (slice_get runs r)) (slice_index labels r == l) e).1

pub label-from : (runs : List Bool) (labels : List ℕ) (l r : ℕ) → is_on (slice_get runs r) ≡ true → slice_index labels r ≡ l → has_label runs labels l r ≡ true
label-from runs labels l r on e = and-from (is_on (slice_get runs r)) (slice_index labels r == l) on (eq-to (slice_index labels r) l e)

label-off : (runs : List Bool) (labels : List ℕ) (l r : ℕ) → is_on (slice_get runs r) ≡ false → has_label runs labels l r ≡ false
label-off runs labels l r e = and-off (is_on (slice_get runs r)) (slice_index labels r == l) e

label-not : (runs : List Bool) (labels : List ℕ) (l r : ℕ) → (slice_index labels r ≡ l → ⊥) → has_label runs labels l r ≡ false
label-not runs labels l r ne = and-not (is_on (slice_get runs r)) (slice_index labels r == l) (eq-not (slice_index labels r) l ne)

-- ---- one router more, where a test passes

one : Bool → ℕ → List ℕ
one t r = if t then r ∷ [] else []

in-more : (t : Bool) (xs : List ℕ) (r x : ℕ) → In x (xs ++ (if t then r ∷ [] else [])) → In x xs ⊎ ((t ≡ true) × (x ≡ r))
in-more true xs r x i = ⊎_elim (λ (j : In x xs). inl j) (λ (e : x ≡ r). inr (refl, e)) (in-last x r xs i)
in-more false xs r x i = inl (subst (λ (ys : List ℕ). In x ys) (append-nil xs) i)

more-in : (t : Bool) (xs : List ℕ) (r : ℕ) → t ≡ true → In r (xs ++ (if t then r ∷ [] else []))
more-in true xs r e = in-right r xs (r ∷ []) (inl refl)
more-in false xs r e = absurd (false≢true e)

more-none : (t : Bool) (xs : List ℕ) (r : ℕ) → t ≡ false → xs ++ (if t then r ∷ [] else []) ≡ xs
more-none true xs r e = absurd (false≢true (sym e))
more-none false xs r e = append-nil xs

more-one : (t : Bool) (xs : List ℕ) (r : ℕ) → t ≡ true → xs ++ (if t then r ∷ [] else []) ≡ xs ++ r ∷ []
more-one true xs r e = refl
more-one false xs r e = absurd (false≢true e)

rises-more : (t : Bool) (xs : List ℕ) (r : ℕ) → Rises 0 xs → ((x : ℕ) → In x xs → x < r) → Rises 0 (xs ++ (if t then r ∷ [] else []))
rises-more true xs r h below = rises-last 0 xs r h below zero-le
rises-more false xs r h below = subst (λ (ys : List ℕ). Rises 0 ys) (sym (append-nil xs)) h

-- ---- those of a label

pub in-labelled : (runs : List Bool) (labels : List ℕ) (l n x : ℕ) → In x (labelled runs labels l n) → (x < n) × (has_label runs labels l x ≡ true)
in-labelled runs labels l zero x i = absurd i
in-labelled runs labels l (suc n) x i =
    ⊎_elim
    (λ (j : In x (labelled runs labels l n)). let h = in-labelled runs labels l n x j in (omega (arith, h.0), h.1))
    (λ (e : (has_label runs labels l n ≡ true) × (x ≡ n)). (omega (arith, e.1), subst (λ (y : ℕ). has_label runs labels l y ≡ true) (sym e.1) e.0))
    (in-more (has_label runs labels l n) (labelled runs labels l n) n x i)

pub labelled-in : (runs : List Bool) (labels : List ℕ) (l n x : ℕ) → x < n → has_label runs labels l x ≡ true → In x (labelled runs labels l n)
labelled-in runs labels l zero x h t = absurd (omega (arith, h))
labelled-in runs labels l (suc n) x h t =
    ⊎_elim
    (λ (e : x ≡ n). subst (λ (y : ℕ). In y (labelled runs labels l n ++ (if has_label runs labels l n then n ∷ [] else []))) (sym e) (more-in (has_label runs labels l n) (labelled runs labels l n) n (subst (λ (y : ℕ). has_label runs labels l y ≡ true) e t)))
    (λ (ne : x ≡ n → ⊥). in-left x (labelled runs labels l n) (if has_label runs labels l n then n ∷ [] else []) (labelled-in runs labels l n x (omega (arith, h, ne)) t))
    (cases_eq x n)

pub rises-labelled : (runs : List Bool) (labels : List ℕ) (l n : ℕ) → Rises 0 (labelled runs labels l n)
rises-labelled runs labels l zero = tt
rises-labelled runs labels l (suc n) = rises-more (has_label runs labels l n) (labelled runs labels l n) n (rises-labelled runs labels l n) (λ x i. (in-labelled runs labels l n x i).0)

-- ---- those that are their own label

pub in-firsts : (runs : List Bool) (labels : List ℕ) (n x : ℕ) → In x (firsts runs labels n) → (x < n) × (has_label runs labels x x ≡ true)
in-firsts runs labels zero x i = absurd i
in-firsts runs labels (suc n) x i =
    ⊎_elim
    (λ (j : In x (firsts runs labels n)). let h = in-firsts runs labels n x j in (omega (arith, h.0), h.1))
    (λ (e : (has_label runs labels n n ≡ true) × (x ≡ n)). (omega (arith, e.1), subst (λ (y : ℕ). has_label runs labels y y ≡ true) (sym e.1) e.0))
    (in-more (has_label runs labels n n) (firsts runs labels n) n x i)

pub firsts-in : (runs : List Bool) (labels : List ℕ) (n x : ℕ) → x < n → has_label runs labels x x ≡ true → In x (firsts runs labels n)
firsts-in runs labels zero x h t = absurd (omega (arith, h))
firsts-in runs labels (suc n) x h t =
    ⊎_elim
    (λ (e : x ≡ n). subst (λ (y : ℕ). In y (firsts runs labels n ++ (if has_label runs labels n n then n ∷ [] else []))) (sym e) (more-in (has_label runs labels n n) (firsts runs labels n) n (subst (λ (y : ℕ). has_label runs labels y y ≡ true) e t)))
    (λ (ne : x ≡ n → ⊥). in-left x (firsts runs labels n) (if has_label runs labels n n then n ∷ [] else []) (firsts-in runs labels n x (omega (arith, h, ne)) t))
    (cases_eq x n)

pub rises-firsts : (runs : List Bool) (labels : List ℕ) (n : ℕ) → Rises 0 (firsts runs labels n)
rises-firsts runs labels zero = tt
rises-firsts runs labels (suc n) = rises-more (has_label runs labels n n) (firsts runs labels n) n (rises-firsts runs labels n) (λ x i. (in-firsts runs labels n x i).0)

-- ---- groups, one router more

-- where it has none of the labels
map-none : (f : ℕ → List ℕ) (t : ℕ → Bool) (r : ℕ) (xs : List ℕ) → ((x : ℕ) → In x xs → t x ≡ false) → map (λ (x : ℕ). f x ++ (if t x then r ∷ [] else [])) xs ≡ map f xs
map-none f t r [] h = refl
map-none f t r (x ∷ xs) h = ap₂ (λ (g : List ℕ) (gs : List (List ℕ)). g ∷ gs) (more-none (t x) (f x) r (h x (inl refl))) (map-none f t r xs (λ y i. h y (inr i)))

-- where it has the label at a place
map-one : (f : ℕ → List ℕ) (t : ℕ → Bool) (r least : ℕ) (xs : List ℕ) (k l : ℕ) → Rises least xs → slice_get xs k ≡ Some l → t l ≡ true → ((x : ℕ) → (x ≡ l → ⊥) → t x ≡ false) → map (λ (x : ℕ). f x ++ (if t x then r ∷ [] else [])) xs ≡ with_router (map f xs) k r
map-one f t r least [] k l h e has others = absurd (none-some l e)
map-one f t r least (x ∷ xs) zero l h e has others =
    ap₂ (λ (g : List ℕ) (gs : List (List ℕ)). g ∷ gs)
    (more-one (t x) (f x) r (subst (λ (y : ℕ). t y ≡ true) (sym (same_Some x l e)) has))
    (map-none f t r xs (λ y i. others y (λ is. let up = rises-in (x + 1) xs y h.1 i in omega (arith, up, is, same_Some x l e))))
map-one f t r least (x ∷ xs) (suc k) l h e has others =
    ap₂ (λ (g : List ℕ) (gs : List (List ℕ)). g ∷ gs)
    (more-none (t x) (f x) r (others x (λ is. let up = rises-in (x + 1) xs l h.1 (get-in xs k l e) in omega (arith, up, is))))
    (map-one f t r (x + 1) xs k l h.1 e has others)

-- a router that doesn't take part
grouped-skip : (runs : List Bool) (labels : List ℕ) (r : ℕ) (groups : List (List ℕ)) (places : List ℕ) → AreGrouped runs labels r groups places → is_on (slice_get runs r) ≡ false → AreGrouped runs labels (suc r) groups places
grouped-skip runs labels r groups places g off = record {
  size = g.size;
  groups_are = g.groups_are ∙ sym (ap (λ (fs : List ℕ). map (λ (l : ℕ). labelled runs labels l (suc r)) fs) stay ∙ map-none (λ (l : ℕ). labelled runs labels l r) (λ (l : ℕ). has_label runs labels l r) r (firsts runs labels r) (λ x i. label-off runs labels x r off));
  places_are = λ first h t. ⊎_elim
      (λ (e : first ≡ r). absurd (false≢true (sym (label-off runs labels first first (subst (λ (y : ℕ). is_on (slice_get runs y) ≡ false) (sym e) off)) ∙ t)))
      (λ (ne : first ≡ r → ⊥). ap (λ (fs : List ℕ). slice_get fs (slice_index places first)) stay ∙ g.places_are first (omega (arith, h, ne)) t)
      (cases_eq first r);
}
  where
    stay : firsts runs labels (suc r) ≡ firsts runs labels r
    stay = more-none (has_label runs labels r r) (firsts runs labels r) r (label-off runs labels r r off)

no-item : (xs : List ℕ) → ((x : ℕ) → In x xs → ⊥) → xs ≡ []
no-item [] h = refl
no-item (x ∷ xs) h = absurd (h x (inl refl))

map-last : (f : ℕ → List ℕ) (xs : List ℕ) (x : ℕ) → map f (xs ++ x ∷ []) ≡ map f xs ++ f x ∷ []
map-last f [] x = refl
map-last f (y ∷ xs) x = ap (λ (gs : List (List ℕ)). f y ∷ gs) (map-last f xs x)

-- a router that is its own label
grouped-new : (runs : List Bool) (labels : List ℕ) (r : ℕ) (groups : List (List ℕ)) (places : List ℕ) → AreTags runs labels → r < length runs → AreGrouped runs labels r groups places → is_on (slice_get runs r) ≡ true → slice_index labels r ≡ r → AreGrouped runs labels (suc r) (groups ++ (r ∷ []) ∷ []) (set places r (length groups))
grouped-new runs labels r groups places tags within g on is = record {
  size = length-set places r (length groups) ∙ g.size;
  groups_are = ap₂ (λ (gs : List (List ℕ)) (rs : List ℕ). gs ++ rs ∷ []) old-ones new-one ∙ sym (ap (map now) grown ∙ map-last now (firsts runs labels r) r);
  places_are = λ first h t. ⊎_elim
      (λ (e : first ≡ r). subst (λ (y : ℕ). slice_get (firsts runs labels (suc r)) (slice_index (set places r (length groups)) y) ≡ Some y) (sym e)
      (ap (λ (k : ℕ). slice_get (firsts runs labels (suc r)) k) (get_or-set_same places r (length groups) 0 (subst (λ (n : ℕ). r < n) (sym g.size) within) ∙ count)
      ∙ (ap (λ (fs : List ℕ). slice_get fs (length (firsts runs labels r))) grown ∙ get-last (firsts runs labels r) r)))
      (λ (ne : first ≡ r → ⊥). ap (λ (k : ℕ). slice_get (firsts runs labels (suc r)) k) (get_or-set_other places r first (length groups) 0 ne)
      ∙ (ap (λ (fs : List ℕ). slice_get fs (slice_index places first)) grown ∙ get-left (firsts runs labels r) (r ∷ []) (slice_index places first) first (g.places_are first (omega (arith, h, ne)) t)))
      (cases_eq first r);
}
  where
    now : ℕ → List ℕ
    now = λ (l : ℕ). labelled runs labels l (suc r)

    own : has_label runs labels r r ≡ true
    own = label-from runs labels r r on is

    grown : firsts runs labels (suc r) ≡ firsts runs labels r ++ r ∷ []
    grown = more-one (has_label runs labels r r) (firsts runs labels r) r own

    count : length groups ≡ length (firsts runs labels r)
    count = ap length g.groups_are ∙ length-map (firsts runs labels r) (λ (l : ℕ). labelled runs labels l r)

    old-ones : groups ≡ map now (firsts runs labels r)
    old-ones = g.groups_are ∙ sym (map-none (λ (l : ℕ). labelled runs labels l r) (λ (l : ℕ). has_label runs labels l r) r (firsts runs labels r) (λ x i. label-not runs labels x r (λ e. let h = in-firsts runs labels r x i in omega (arith, h.0, e, is))))

    nobody : labelled runs labels r r ≡ []
    nobody = no-item (labelled runs labels r r) (λ x i. let h = in-labelled runs labels r r x i in omega (arith, h.0, label-is runs labels r x h.1, tags.below x (omega (arith, h.0, within))))

    new-one : r ∷ [] ≡ now r
    new-one = sym (more-one (has_label runs labels r r) (labelled runs labels r r) r own ∙ ap (λ (xs : List ℕ). xs ++ r ∷ []) nobody)

-- an earlier router's label has its place
place-of : (runs : List Bool) (labels : List ℕ) (r l : ℕ) (groups : List (List ℕ)) (places : List ℕ) → AreTags runs labels → r < length runs → AreGrouped runs labels r groups places → is_on (slice_get runs r) ≡ true → slice_index labels r ≡ l → (l ≡ r → ⊥) → slice_get (firsts runs labels r) (slice_index places l) ≡ Some l
place-of runs labels r l groups places tags within g on is ne =
    g.places_are l (omega (arith, tags.below r within, is, ne)) (subst (λ (y : ℕ). has_label runs labels y y ≡ true) is (tags.own r on))

pub place-within : (runs : List Bool) (labels : List ℕ) (r l : ℕ) (groups : List (List ℕ)) (places : List ℕ) → AreTags runs labels → r < length runs → AreGrouped runs labels r groups places → is_on (slice_get runs r) ≡ true → slice_index labels r ≡ l → (l ≡ r → ⊥) → slice_index places l < length groups
place-within runs labels r l groups places tags within g on is ne =
    subst (λ (n : ℕ). slice_index places l < n) (sym (ap length g.groups_are ∙ length-map (firsts runs labels r) (λ (x : ℕ). labelled runs labels x r)))
    (slice_get_within (firsts runs labels r) (slice_index places l) l (place-of runs labels r l groups places tags within g on is ne))

-- a router of an earlier one's label
grouped-add : (runs : List Bool) (labels : List ℕ) (r l : ℕ) (groups : List (List ℕ)) (places : List ℕ) → AreTags runs labels → r < length runs → AreGrouped runs labels r groups places → is_on (slice_get runs r) ≡ true → slice_index labels r ≡ l → (l ≡ r → ⊥) → AreGrouped runs labels (suc r) (with_router groups (slice_index places l) r) places
grouped-add runs labels r l groups places tags within g on is ne = record {
  size = g.size;
  groups_are = ap (λ (gs : List (List ℕ)). with_router gs (slice_index places l) r) g.groups_are
      ∙ sym (ap (λ (fs : List ℕ). map (λ (x : ℕ). labelled runs labels x (suc r)) fs) stay
      ∙ map-one (λ (x : ℕ). labelled runs labels x r) (λ (x : ℕ). has_label runs labels x r) r 0 (firsts runs labels r) (slice_index places l) l (rises-firsts runs labels r)
      (place-of runs labels r l groups places tags within g on is ne)
      (label-from runs labels l r on is)
      (λ x other. label-not runs labels x r (λ e. other (sym e ∙ is))));
  places_are = λ first h t. ⊎_elim
      (λ (e : first ≡ r). absurd (ne (sym is ∙ (ap (slice_index labels) (sym e) ∙ (label-is runs labels first first t ∙ e)))))
      (λ (other : first ≡ r → ⊥). ap (λ (fs : List ℕ). slice_get fs (slice_index places first)) stay ∙ g.places_are first (omega (arith, h, other)) t)
      (cases_eq first r);
}
  where
    stay : firsts runs labels (suc r) ≡ firsts runs labels r
    stay = more-none (has_label runs labels r r) (firsts runs labels r) r (label-not runs labels r r (λ e. ne (sym is ∙ e)))

-- no router yet
pub grouped-none : (runs : List Bool) (labels places : List ℕ) → length places ≡ length runs → AreGrouped runs labels 0 [] places
grouped-none runs labels places size = record {
  size = size;
  groups_are = refl;
  places_are = λ first h t. absurd (omega (arith, h));
}

-- ---- the same, as steps of a loop

next-is : (runs : List Bool) (labels : List ℕ) (r : ℕ) (groups : List (List ℕ)) (places : List ℕ) → AreGrouped runs labels (suc r) groups places → AreGrouped runs labels (r + 1) groups places
next-is runs labels r groups places g = subst (λ (n : ℕ). AreGrouped runs labels n groups places) (sym (add-one r)) g

pub step-skip : (runs : List Bool) (labels : List ℕ) (r : ℕ) (groups : List (List ℕ)) (places : List ℕ) → AreGrouped runs labels r groups places → is_on (slice_get runs r) ≡ false → AreGrouped runs labels (r + 1) groups places
step-skip runs labels r groups places g off = next-is runs labels r groups places (grouped-skip runs labels r groups places g off)

pub step-new : (runs : List Bool) (labels : List ℕ) (r : ℕ) (groups new : List (List ℕ)) (places group : List ℕ) (k : ℕ) → AreTags runs labels → r < length runs → AreGrouped runs labels r groups places → is_on (slice_get runs r) ≡ true → slice_index labels r ≡ r → group ≡ r ∷ [] → k ≡ length groups → new ≡ groups ++ group ∷ [] → AreGrouped runs labels (r + 1) new (set places r k)
step-new runs labels r groups new places group k tags within g on is one count e =
    subst (λ (gs : List (List ℕ)). AreGrouped runs labels (r + 1) gs (set places r k)) (sym (e ∙ ap (λ (rs : List ℕ). groups ++ rs ∷ []) one))
    (subst (λ (j : ℕ). AreGrouped runs labels (r + 1) (groups ++ (r ∷ []) ∷ []) (set places r j)) (sym count)
    (next-is runs labels r (groups ++ (r ∷ []) ∷ []) (set places r (length groups)) (grouped-new runs labels r groups places tags within g on is)))

pub step-add : (runs : List Bool) (labels : List ℕ) (r l : ℕ) (groups new : List (List ℕ)) (places : List ℕ) → AreTags runs labels → r < length runs → AreGrouped runs labels r groups places → is_on (slice_get runs r) ≡ true → slice_index labels r ≡ l → (l ≡ r → ⊥) → new ≡ with_router groups (slice_index places l) r → AreGrouped runs labels (r + 1) new places
step-add runs labels r l groups new places tags within g on is ne e =
    subst (λ (gs : List (List ℕ)). AreGrouped runs labels (r + 1) gs places) (sym e)
    (next-is runs labels r (with_router groups (slice_index places l) r) places (grouped-add runs labels r l groups places tags within g on is ne))
