-- The entries that a router keeps are the join of its copies.
use Rattle.std.proofs.Common.{◌≡◌, ℕ, zero, suc, ◌+◌, ◌-◌, ◌<◌, ◌≤◌, Bool, true, false, cond, ltb, eqb, List, [], ◌∷◌, length, get_or, ◌⊎◌, inl, inr, Some, refl, sym, ap, ◌∙◌, subst, arith, Contains, slice_get}
use Rattle.std.specs.List.{AllByRecursion}
use Rattle.std.proofs.lemmas.Bool.{ltb-true, eqb-true}
use Rattle.std.proofs.lemmas.Bool.Decides.{nat_tests}
use Rattle.isis_base.specs.declared.identifiers.LspId.{LspId}
use Rattle.isis_base.specs.declared.key.Key.{Key}
use Rattle.isis_base.specs.Identifiers.{IsId}
use Rattle.isis_base.specs.Keys.{rank}
use Rattle.isis_base.proofs.ArrayLemmas.{lsp_number-one}
use Rattle.isis_base.proofs.KeyLemmas.{rank-same}
use Rattle.lab_keys.specs.Held.{IsRising, entry_number, HoldsAsNew}
use Rattle.lab_keys.specs.KeysHeld.{join_of_two, joined, join_of_copies}
use Rattle.lab_keys.specs.KeysNet.{has_pair, IsHeldAt}

abbrev Entry : Type 0
Entry = LspId × Key

-- ---- lists that rise, by recursion

abbrev Above : ℕ → List Entry → Type 0
Above n xs = AllByRecursion (λ x. n < entry_number x) xs

abbrev Rises : List Entry → Type 0
Rises [] = Unit {0}
Rises (x ∷ xs) = Above (entry_number x) xs × Rises xs

above-at : (n : ℕ) (xs : List Entry) → ((k : ℕ) (d : Entry) → k < length xs → n < entry_number (get_or xs k d)) → Above n xs
above-at n [] h = tt
above-at n (x ∷ xs) h = (h zero x (omega arith), above-at n xs (λ k d lt. h (suc k) d (omega arith)))

rises-from : (xs : List Entry) → IsRising entry_number xs → Rises xs
rises-from [] up = tt
rises-from (x ∷ xs) up = (
  above-at (entry_number x) xs (λ k d lt. up.below zero (suc k) d (omega arith) (omega arith)),
  rises-from xs (record { below = λ i j d ij jl. up.below (suc i) (suc j) d (omega arith) (omega arith) }),
)

above-less : (n m : ℕ) (xs : List Entry) → n < m → Above m xs → Above n xs
above-less n m [] h a = tt
above-less n m (x ∷ xs) h a = (let first = a.0 in omega arith, above-less n m xs h a.1)

-- ---- elements, by recursion

abbrev In : Entry → List Entry → Type 0
In e [] = ⊥
In e (x ∷ xs) = (x ≡ e) ⊎ In e xs

in-from : (xs : List Entry) (e : Entry) (k : ℕ) → k < length xs → get_or xs k e ≡ e → In e xs
in-from [] e k h at = absurd (omega arith)
in-from (x ∷ xs) e zero h at = inl at
in-from (x ∷ xs) e (suc k) h at = inr (in-from xs e k (omega arith) at)

in-contains : (xs : List Entry) (e : Entry) → In e xs → Contains xs e
in-contains [] e h = absurd h
in-contains (x ∷ xs) e (inl same) = (zero, omega arith, same)
in-contains (x ∷ xs) e (inr h) = let found = in-contains xs e h in (suc found.0, let lt = found.1 in omega arith, found.2)

above-in : (n : ℕ) (xs : List Entry) (e : Entry) → Above n xs → In e xs → n < entry_number e
above-in n [] e a h = absurd h
above-in n (x ∷ xs) e a (inl same) = subst (λ (y : Entry). n < entry_number y) same a.0
above-in n (x ∷ xs) e a (inr h) = above-in n xs e a.1 h

-- an LSP ID has one entry
in-one : (xs : List Entry) (a b : Entry) → Rises xs → In a xs → In b xs → entry_number a ≡ entry_number b → a ≡ b
in-one [] a b up p q e = absurd p
in-one (x ∷ xs) a b up (inl p) (inl q) e = sym p ∙ q
in-one (x ∷ xs) a b up (inl p) (inr q) e =
    absurd (let less : entry_number a < entry_number b = subst (λ (y : Entry). entry_number y < entry_number b) p (above-in (entry_number x) xs b up.0 q) in omega arith)
in-one (x ∷ xs) a b up (inr p) (inl q) e =
    absurd (let less : entry_number b < entry_number a = subst (λ (y : Entry). entry_number y < entry_number a) q (above-in (entry_number x) xs a up.0 p) in omega arith)
in-one (x ∷ xs) a b up (inr p) (inr q) e = in-one xs a b up.1 p q e

tail-in : (x : Entry) (xs : List Entry) (y : Entry) (ys : List Entry) → x ≡ y → Above (entry_number x) xs → ((e : Entry) → In e (x ∷ xs) → In e (y ∷ ys)) → (e : Entry) → In e xs → In e ys
tail-in x xs y ys same a f e h = behind (f e (inr h))
  where
    behind : In e (y ∷ ys) → In e ys
    behind (inl first) = absurd (let less = above-in (entry_number x) xs e a h in let is : entry_number x ≡ entry_number e = ap entry_number (same ∙ first) in omega arith)
    behind (inr later) = later

head-same : (x : Entry) (xs : List Entry) (y : Entry) (ys : List Entry) → Above (entry_number x) xs → Above (entry_number y) ys → In x (y ∷ ys) → In y (x ∷ xs) → x ≡ y
head-same x xs y ys a b (inl p) q = sym p
head-same x xs y ys a b (inr p) (inl q) = q
head-same x xs y ys a b (inr p) (inr q) = absurd (let low = above-in (entry_number y) ys x b p in let high = above-in (entry_number x) xs y a q in omega arith)

-- lists that rise and have the same elements are one
rises-same : (xs ys : List Entry) → Rises xs → Rises ys → ((e : Entry) → In e xs → In e ys) → ((e : Entry) → In e ys → In e xs) → xs ≡ ys
rises-same [] [] up other f g = refl
rises-same [] (y ∷ ys) up other f g = absurd (g y (inl refl))
rises-same (x ∷ xs) [] up other f g = absurd (f x (inl refl))
rises-same (x ∷ xs) (y ∷ ys) up other f g =
    let same = head-same x xs y ys up.0 other.0 (f x (inl refl)) (g y (inl refl)) in
    let rest = rises-same xs ys up.1 other.1 (tail-in x xs y ys same up.0 f) (tail-in y ys x xs (sym same) other.0 g) in
    λ i. same i ∷ rest i

-- ---- a copy joined in

apart : (a b : ℕ) → ltb a b ≡ false → eqb a b ≡ false → b < a
apart a b s t = grind (arith, nat_tests)

-- the join of two copies of one LSP ID is one of them, as new as both
two-number : (x copy : Entry) → entry_number copy ≡ entry_number x → entry_number (join_of_two x copy) ≡ entry_number x
two-number x copy e = elim (ltb (rank (Some x.1)) (rank (Some copy.1))) as (λ t. entry_number (cond t copy x) ≡ entry_number x) [ true ↦ e | false ↦ refl ]

two-one : (x copy : Entry) → (x ≡ join_of_two x copy) ⊎ (copy ≡ join_of_two x copy)
two-one x copy = elim (ltb (rank (Some x.1)) (rank (Some copy.1))) as (λ t. (x ≡ cond t copy x) ⊎ (copy ≡ cond t copy x)) [ true ↦ inr refl | false ↦ inl refl ]

two-newest : (x copy : Entry) → (rank (Some x.1) ≤ rank (Some (join_of_two x copy).1)) × (rank (Some copy.1) ≤ rank (Some (join_of_two x copy).1))
two-newest x copy = by (ltb (rank (Some x.1)) (rank (Some copy.1))) refl
  where
    by : (t : Bool) → ltb (rank (Some x.1)) (rank (Some copy.1)) ≡ t → (rank (Some x.1) ≤ rank (Some (cond t copy x).1)) × (rank (Some copy.1) ≤ rank (Some (cond t copy x).1))
    by true e = (let less = ltb-true (rank (Some x.1)) (rank (Some copy.1)) e in omega arith, omega arith)
    by false e = (omega arith, grind (arith, nat_tests))

above-joined : (n : ℕ) (copy : Entry) (xs : List Entry) → n < entry_number copy → Above n xs → Above n (joined copy xs)
above-joined n copy [] h a = (h, tt)
above-joined n copy (x ∷ xs) h a = by (ltb (entry_number copy) (entry_number x)) (eqb (entry_number copy) (entry_number x)) refl (above-joined n copy xs h a.1)
  where
    by : (s t : Bool) → eqb (entry_number copy) (entry_number x) ≡ t → Above n (joined copy xs) → Above n (cond s (copy ∷ x ∷ xs) (cond t (join_of_two x copy ∷ xs) (x ∷ joined copy xs)))
    by true t e rest = (h, a)
    by false true e rest = (subst (λ (m : ℕ). n < m) (sym (two-number x copy (eqb-true (entry_number copy) (entry_number x) e))) a.0, a.1)
    by false false e rest = (a.0, rest)

rises-joined : (copy : Entry) (xs : List Entry) → Rises xs → Rises (joined copy xs)
rises-joined copy [] up = (tt, tt)
rises-joined copy (x ∷ xs) up = by (ltb (entry_number copy) (entry_number x)) (eqb (entry_number copy) (entry_number x)) refl refl (rises-joined copy xs up.1)
  where
    by : (s t : Bool) → ltb (entry_number copy) (entry_number x) ≡ s → eqb (entry_number copy) (entry_number x) ≡ t → Rises (joined copy xs) → Rises (cond s (copy ∷ x ∷ xs) (cond t (join_of_two x copy ∷ xs) (x ∷ joined copy xs)))
    by true t p q rest = let less = ltb-true (entry_number copy) (entry_number x) p in ((less, above-less (entry_number copy) (entry_number x) xs less up.0), up)
    by false true p q rest = (subst (λ (m : ℕ). Above m xs) (sym (two-number x copy (eqb-true (entry_number copy) (entry_number x) q))) up.0, up.1)
    by false false p q rest = (above-joined (entry_number x) copy xs (apart (entry_number copy) (entry_number x) p q) up.0, rest)

-- what is there after it was there before, or is the copy
in-joined : (copy : Entry) (xs : List Entry) (e : Entry) → In e (joined copy xs) → In e xs ⊎ (copy ≡ e)
in-joined copy [] e (inl same) = inr same
in-joined copy [] e (inr h) = absurd h
in-joined copy (x ∷ xs) e h = by (ltb (entry_number copy) (entry_number x)) (eqb (entry_number copy) (entry_number x)) (in-joined copy xs e) h
  where
    by : (s t : Bool) → (In e (joined copy xs) → In e xs ⊎ (copy ≡ e)) → In e (cond s (copy ∷ x ∷ xs) (cond t (join_of_two x copy ∷ xs) (x ∷ joined copy xs))) → In e (x ∷ xs) ⊎ (copy ≡ e)
    by true t rest (inl same) = inr same
    by true t rest (inr there) = inl there
    by false true rest (inl same) = elim (two-one x copy) [ inl old ↦ inl (inl (old ∙ same)) | inr new ↦ inr (new ∙ same) ]
    by false true rest (inr there) = inl (inr there)
    by false false rest (inl same) = inl (inl same)
    by false false rest (inr there) = elim (rest there) [ inl old ↦ inl (inr old) | inr new ↦ inr new ]

-- some entry has its LSP ID, and a key as new or newer
record Has (xs : List Entry) (copy : Entry) : Type 0 where
  entry : Entry
  there : In entry xs
  number : entry_number entry ≡ entry_number copy
  newest : rank (Some copy.1) ≤ rank (Some entry.1)

has-itself : (xs : List Entry) (e : Entry) → In e xs → Has xs e
has-itself xs e h = record { entry = e; there = h; number = refl; newest = omega arith }

has-more : (x : Entry) (xs : List Entry) (e : Entry) → Has xs e → Has (x ∷ xs) e
has-more x xs e h = record { entry = h.entry; there = inr h.there; number = h.number; newest = h.newest }

has-old : (copy : Entry) (xs : List Entry) (e : Entry) → In e xs → Has (joined copy xs) e
has-old copy [] e h = absurd h
has-old copy (x ∷ xs) e h = by (ltb (entry_number copy) (entry_number x)) (eqb (entry_number copy) (entry_number x)) refl (has-old copy xs e) h
  where
    by : (s t : Bool) → eqb (entry_number copy) (entry_number x) ≡ t → (In e xs → Has (joined copy xs) e) → In e (x ∷ xs) → Has (cond s (copy ∷ x ∷ xs) (cond t (join_of_two x copy ∷ xs) (x ∷ joined copy xs))) e
    by true t q rest there = has-itself (copy ∷ x ∷ xs) e (inr there)
    by false true q rest (inl same) = record {
      entry = join_of_two x copy;
      there = inl refl;
      number = two-number x copy (eqb-true (entry_number copy) (entry_number x) q) ∙ ap entry_number same;
      newest = subst (λ (y : Entry). rank (Some y.1) ≤ rank (Some (join_of_two x copy).1)) same (two-newest x copy).0;
    }
    by false true q rest (inr there) = has-itself (join_of_two x copy ∷ xs) e (inr there)
    by false false q rest (inl same) = has-itself (x ∷ joined copy xs) e (inl same)
    by false false q rest (inr there) = has-more x (joined copy xs) e (rest there)

has-new : (copy : Entry) (xs : List Entry) → Has (joined copy xs) copy
has-new copy [] = has-itself (copy ∷ []) copy (inl refl)
has-new copy (x ∷ xs) = by (ltb (entry_number copy) (entry_number x)) (eqb (entry_number copy) (entry_number x)) refl (has-new copy xs)
  where
    by : (s t : Bool) → eqb (entry_number copy) (entry_number x) ≡ t → Has (joined copy xs) copy → Has (cond s (copy ∷ x ∷ xs) (cond t (join_of_two x copy ∷ xs) (x ∷ joined copy xs))) copy
    by true t q rest = has-itself (copy ∷ x ∷ xs) copy (inl refl)
    by false true q rest = record {
      entry = join_of_two x copy;
      there = inl refl;
      number = let e = eqb-true (entry_number copy) (entry_number x) q in two-number x copy e ∙ sym e;
      newest = (two-newest x copy).1;
    }
    by false false q rest = has-more x (joined copy xs) copy rest

has-joined : (copy : Entry) (xs : List Entry) (e : Entry) → Has xs e → Has (joined copy xs) e
has-joined copy xs e h =
    let found = has-old copy xs h.entry h.there in
    record { entry = found.entry; there = found.there; number = found.number ∙ h.number; newest = let a = found.newest in let b = h.newest in omega arith }

-- ---- the join of all copies at a router

module _ (places : List (ℕ × ℕ)) (router : ℕ) where
  abbrev all : ℕ → List Entry → List Entry
  all number copies = join_of_copies places router number copies

  rises-all : (number : ℕ) (copies : List Entry) → Rises (all number copies)
  rises-all number [] = tt
  rises-all number (copy ∷ copies) =
      elim (has_pair places number router) as (λ t. Rises (cond t (joined copy (all (number + 1) copies)) (all (number + 1) copies))) [
        | true ↦ rises-joined copy (all (number + 1) copies) (rises-all (number + 1) copies)
        | false ↦ rises-all (number + 1) copies
      ]

  record Made (number : ℕ) (copies : List Entry) (e : Entry) : Type 0 where
    place : ℕ
    made : slice_get copies place ≡ Some e
    there : has_pair places (number + place) router ≡ true

  made-more : (number : ℕ) (copy : Entry) (copies : List Entry) (e : Entry) → Made (number + 1) copies e → Made number (copy ∷ copies) e
  made-more number copy copies e m = record {
    place = suc m.place;
    made = m.made;
    there = ap (λ (k : ℕ). has_pair places k router) (let p = m.place in let same : number + suc p ≡ number + 1 + p = omega arith in same) ∙ m.there;
  }

  in-all : (number : ℕ) (copies : List Entry) (e : Entry) → In e (all number copies) → Made number copies e
  in-all number [] e h = absurd h
  in-all number (copy ∷ copies) e h = by (has_pair places number router) refl (in-all (number + 1) copies e) h
    where
      by : (t : Bool) → has_pair places number router ≡ t → (In e (all (number + 1) copies) → Made (number + 1) copies e) → In e (cond t (joined copy (all (number + 1) copies)) (all (number + 1) copies)) → Made number (copy ∷ copies) e
      by true at rest h = elim (in-joined copy (all (number + 1) copies) e h) [
        | inl old ↦ made-more number copy copies e (rest old)
        | inr new ↦ record { place = zero; made = ap Some new; there = ap (λ (k : ℕ). has_pair places k router) (let same : number + zero ≡ number = omega arith in same) ∙ at }
      ]
      by false at rest h = made-more number copy copies e (rest h)

  has-all : (number : ℕ) (copies : List Entry) (place : ℕ) (e : Entry) → slice_get copies place ≡ Some e → has_pair places (number + place) router ≡ true → Has (all number copies) e
  has-all number [] place e made there = cc
  has-all number (copy ∷ copies) zero e made there = by (has_pair places number router) refl
    where
      by : (t : Bool) → has_pair places number router ≡ t → Has (cond t (joined copy (all (number + 1) copies)) (all (number + 1) copies)) e
      by true at = let same : copy ≡ e = cc in subst (λ (x : Entry). Has (joined copy (all (number + 1) copies)) x) same (has-new copy (all (number + 1) copies))
      by false at = absurd (let is : has_pair places number router ≡ true = ap (λ (k : ℕ). has_pair places k router) (let same : number ≡ number + zero = omega arith in same) ∙ there in let no_longer : ◌≡◌ {A = Bool} true false = sym is ∙ at in cc)
  has-all number (copy ∷ copies) (suc place) e made there = by (has_pair places number router) (has-all (number + 1) copies place e made (ap (λ (k : ℕ). has_pair places k router) (let same : number + 1 + place ≡ number + suc place = omega arith in same) ∙ there))
    where
      by : (t : Bool) → Has (all (number + 1) copies) e → Has (cond t (joined copy (all (number + 1) copies)) (all (number + 1) copies)) e
      by true rest = has-joined copy (all (number + 1) copies) e rest
      by false rest = rest

-- each copy that was made has an LSP ID of the program
id-at : (copies : List Entry) (place : ℕ) (e : Entry) → AllByRecursion (λ copy. IsId copy.0) copies → slice_get copies place ≡ Some e → IsId e.0
id-at [] place e ids made = cc
id-at (copy ∷ copies) zero e ids made = let same : copy ≡ e = cc in subst (λ (x : Entry). IsId x.0) same ids.0
id-at (copy ∷ copies) (suc place) e ids made = id-at copies place e ids.1 made

same-entry : (a b : Entry) → IsId a.0 → IsId b.0 → entry_number a ≡ entry_number b → rank (Some a.1) ≡ rank (Some b.1) → a ≡ b
same-entry a b p q number ranks =
    let ids = lsp_number-one a.0 b.0 p q number in
    let keys : ◌≡◌ {A = Key} a.1 b.1 = let some = rank-same (Some a.1) (Some b.1) ranks in cc in
    λ i. (ids i, keys i)

-- the entries that a router keeps are the join of its copies
pub held-joined : (copies : List Entry) (places : List (ℕ × ℕ)) (router : ℕ) (entries : List Entry) → IsHeldAt copies places router entries → AllByRecursion (λ copy. IsId copy.0) copies → entries ≡ join_of_copies places router 1 copies
held-joined copies places router entries held ids =
    rises-same entries (join_of_copies places router 1 copies) (rises-from entries held.rising) (rises-all places router 1 copies) into out
  where
    numbered : (n : ℕ) → 0 < n → has_pair places n router ≡ true → has_pair places (1 + (n - 1)) router ≡ true
    numbered n some there = ap (λ (k : ℕ). has_pair places k router) (let same : 1 + (n - 1) ≡ n = omega arith in same) ∙ there

    covers : (e : Entry) → In e (join_of_copies places router 1 copies) → HoldsAsNew entries e
    covers e h =
        let made = in-all places router 1 copies e h in
        held.newest (1 + made.place) e (record { some = omega arith; made = ap (slice_get copies) (let p = made.place in let same : 1 + p - 1 ≡ p = omega arith in same) ∙ made.made; there = made.there })

    in-of : (e : Entry) → Contains entries e → In e entries
    in-of e h = in-from entries e h.0 h.1 h.2

    id-of_entry : (e : Entry) → In e entries → IsId e.0
    id-of_entry e h = let among = held.among e (in-contains entries e h) in id-at copies (among.0 - 1) e ids among.1.made

    id-of_key : (e : Entry) → In e (join_of_copies places router 1 copies) → IsId e.0
    id-of_key e h = let made = in-all places router 1 copies e h in id-at copies made.place e ids made.made

    into : (e : Entry) → In e entries → In e (join_of_copies places router 1 copies)
    into e h =
        let among = held.among e (in-contains entries e h) in
        let has = has-all places router 1 copies (among.0 - 1) e among.1.made (numbered among.0 among.1.some among.1.there) in
        let over = covers has.entry has.there in
        let back : over.0 ≡ e = in-one entries over.0 e (rises-from entries held.rising) (in-of over.0 over.1) h (over.2 ∙ has.number) in
        let high : rank (Some has.entry.1) ≤ rank (Some e.1) = subst (λ (x : Entry). rank (Some has.entry.1) ≤ rank (Some x.1)) back over.3 in
        let same = same-entry has.entry e (id-of_key has.entry has.there) (id-of_entry e h) has.number (let low = has.newest in omega arith) in
        subst (λ (x : Entry). In x (join_of_copies places router 1 copies)) same has.there

    out : (e : Entry) → In e (join_of_copies places router 1 copies) → In e entries
    out e h =
        let over = covers e h in
        let there = in-of over.0 over.1 in
        let among = held.among over.0 over.1 in
        let has = has-all places router 1 copies (among.0 - 1) over.0 among.1.made (numbered among.0 among.1.some among.1.there) in
        let back : has.entry ≡ e = in-one (join_of_copies places router 1 copies) has.entry e (rises-all places router 1 copies) has.there h (has.number ∙ over.2) in
        let high : rank (Some over.0.1) ≤ rank (Some e.1) = subst (λ (x : Entry). rank (Some over.0.1) ≤ rank (Some x.1)) back has.newest in
        let same = same-entry over.0 e (id-of_entry over.0 there) (id-of_key e h) over.2 (let low = over.3 in omega arith) in
        subst (λ (x : Entry). In x entries) same there
