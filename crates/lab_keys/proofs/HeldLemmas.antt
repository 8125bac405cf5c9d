-- Entries in order, with one more or one exchanged.
use Rattle.std.proofs.Common.{◌≡◌, ℕ, ◌+◌, ◌-◌, ◌<◌, ◌≤◌, List, length, get_or, set, ◌⊎◌, inl, inr, refl, length-set, sym, ap, ◌∙◌, subst, arith, get_or-set_same, get_or-set_other, Result, Ok, Err, MatchResult, Some, Contains}
use Rattle.std.specs.List.{HoldsAt, insert}
use Rattle.std.specs.List.Sorted.{IsNonDecreasingBy, IsPartitionPoint, IsBinarySearchResult, IsSearchInRange}
use Rattle.std.specs.Ordering.{nat_cmp, ordering_index}
use Rattle.std.specs.declared.cmp.Ordering.TheVariants.{Less, Equal, Greater}
use Rattle.std.proofs.lemmas.Bool.{cases_eq, cases_lt, cases_order}
use Rattle.std.proofs.lemmas.Bool.Decides.{nat_tests}
use Rattle.std.proofs.lemmas.List.Edits.{length-insert, get_or-insert_below, get_or-insert_at, get_or-insert_above}
use Rattle.std.proofs.lemmas.List.{get_or_default}
use Rattle.std.proofs.lemmas.List.Elements.{Contains-get_or}
use Rattle.isis_base.specs.declared.identifiers.LspId.{LspId}
use Rattle.isis_base.specs.declared.key.Key.{Key}
use Rattle.isis_base.specs.Keys.{rank}
use Rattle.lab_keys.specs.Held.{IsRising, IsGap, IsPlaceOf, entry_number, HoldsAsNew, Joins}

cmp-equal : (a b : ℕ) → nat_cmp a b ≡ Equal → a ≡ b
cmp-equal a b e = grind (arith, nat_tests)

cmp-less : (a b : ℕ) → nat_cmp a b ≡ Less → a < b
cmp-less a b e = grind (arith, nat_tests)

cmp-greater : (a b : ℕ) → nat_cmp a b ≡ Greater → b < a
cmp-greater a b e = grind (arith, nat_tests)

higher : (a b x : ℕ) → a ≤ b → ordering_index (nat_cmp a x) ≤ ordering_index (nat_cmp b x)
higher a b x le = grind (arith, nat_tests)

-- where a binary search finds the number
pub found : (xs : List (LspId × Key)) (n i : ℕ) → i < length xs → HoldsAt (λ y. nat_cmp (entry_number y) n ≡ Equal) xs i → IsPlaceOf xs n i
found xs n i lt h = record { inside = lt; here = λ d. cmp-equal _ _ (h d) }

rising-same : {X : Type 0} (number : X → ℕ) (xs : List X) (n : ℕ) → IsRising number xs → IsNonDecreasingBy (λ y. ordering_index (nat_cmp (number y) n)) xs
rising-same number xs n up i j d le lt =
    elim (cases_eq i j) [
      | inl same ↦ higher _ _ n (subst (λ (k : ℕ). number (get_or xs i d) ≤ number (get_or xs k d)) same (omega arith))
      | inr apart ↦ higher _ _ n (let h = up.below i j d (omega arith) lt in omega arith)
    ]

-- where it doesn't, there is the number's gap
pub gap : {X : Type 0} (number : X → ℕ) (xs : List X) (n i : ℕ) → IsRising number xs → i ≤ length xs → (IsNonDecreasingBy (λ y. ordering_index (nat_cmp (number y) n)) xs → IsPartitionPoint (λ y. nat_cmp (number y) n ≡ Less) (λ y. nat_cmp (number y) n ≡ Greater) xs i) → IsGap number xs n i
gap number xs n i up le h =
    let parted = h (rising-same number xs n up) in
    record {
      inside = le;
      low = λ k d lt. cmp-less _ _ (parted.0 k d (omega arith) lt);
      high = λ k d le lt. cmp-greater _ _ (parted.1 k d le lt);
    }

set-number : {X : Type 0} (number : X → ℕ) (xs : List X) (i : ℕ) (x : X) → i < length xs → ((d : X) → number (get_or xs i d) ≡ number x) → (k : ℕ) (d : X) → number (get_or (set xs i x) k d) ≡ number (get_or xs k d)
set-number number xs i x lt same k d =
    elim (cases_eq k i) [
      | inl here ↦ subst (λ (m : ℕ). number (get_or (set xs i x) m d) ≡ number (get_or xs m d)) (sym here) (ap number (get_or-set_same xs i x d lt) ∙ sym (same d))
      | inr other ↦ ap number (get_or-set_other xs i k x d other)
    ]

insert-below : {X : Type 0} (number : X → ℕ) (xs : List X) (i : ℕ) (x : X) → IsRising number xs → i ≤ length xs → IsGap number xs (number x) i → (a b : ℕ) (d : X) → a < b → b ≤ length xs → number (get_or (insert xs i x) a d) < number (get_or (insert xs i x) b d)
insert-below number xs i x up le g a b d ab bl =
    let low : (k : ℕ) → k < i → number (get_or (insert xs i x) k d) ≡ number (get_or xs k d) = λ k lt. ap number (get_or-insert_below xs i x d k lt le) in
    let at : number (get_or (insert xs i x) i d) ≡ number x = ap number (get_or-insert_at xs i x d le) in
    let high : (k : ℕ) → i ≤ k → number (get_or (insert xs i x) (k + 1) d) ≡ number (get_or xs k d) = λ k h. ap number (get_or-insert_above xs i x d k h le) in
    let later : (k : ℕ) → i < k → number (get_or (insert xs i x) k d) ≡ number (get_or xs (k - 1) d) =
    λ k h. let back : k - 1 + 1 ≡ k = omega arith in subst (λ (m : ℕ). number (get_or (insert xs i x) m d) ≡ number (get_or xs (k - 1) d)) back (high (k - 1) (omega arith)) in
    elim (cases_order b i) [
      | inl here ↦
          subst (λ (m : ℕ). number (get_or (insert xs i x) a d) < number (get_or (insert xs i x) m d)) (sym here)
          (let l = low a (omega arith) in let under = g.low a d (omega arith) in omega arith)
      | inr (inl before) ↦ let p = low a (omega arith) in let q = low b before in let h = up.below a b d ab (omega arith) in omega arith
      | inr (inr after) ↦
          let q = later b after in
          elim (cases_order a i) [
            | inl here ↦
                subst (λ (m : ℕ). number (get_or (insert xs i x) m d) < number (get_or (insert xs i x) b d)) (sym here)
                (let over = g.high (b - 1) d (omega arith) (omega arith) in omega arith)
            | inr (inl first) ↦ let p = low a first in let h = up.below a (b - 1) d (omega arith) (omega arith) in omega arith
            | inr (inr behind) ↦ let p = later a behind in let h = up.below (a - 1) (b - 1) d (omega arith) (omega arith) in omega arith
          ]
    ]

-- another element of the same number in one's place
pub IsRising-set : {X : Type 0} (number : X → ℕ) (xs : List X) (i : ℕ) (x : X) → IsRising number xs → i < length xs → ((d : X) → number (get_or xs i d) ≡ number x) → IsRising number (set xs i x)
IsRising-set number xs i x up lt same = record {
  below = λ a b d ab bl.
      let inside : b < length xs = omega (arith, length-set xs i x) in
      let old = up.below a b d ab inside in
      let at : (k : ℕ) → number (get_or (set xs i x) k d) ≡ number (get_or xs k d) = λ k. set-number number xs i x lt same k d in
      omega (arith, at a, at b);
}

pub IsRising-insert : {X : Type 0} (number : X → ℕ) (xs : List X) (i : ℕ) (x : X) → IsRising number xs → i ≤ length xs → IsGap number xs (number x) i → IsRising number (insert xs i x)
IsRising-insert number xs i x up le g = record {
  below = λ a b d ab bl.
      let more = length-insert xs i x le in
      insert-below number xs i x up le g a b d ab (omega arith);
}

HoldsAsNew-itself : (xs : List (LspId × Key)) (e : LspId × Key) → Contains xs e → HoldsAsNew xs e
HoldsAsNew-itself xs e h = (e, h, refl, omega arith)

at-each : (xs : List (LspId × Key)) (i : ℕ) (entry : LspId × Key) → i < length xs → entry ≡ get_or xs i entry → (d : LspId × Key) → entry ≡ get_or xs i d
at-each xs i entry lt e d = e ∙ get_or_default xs i entry d lt

-- the key is newer than the one that is there
pub Joins-newer : (xs : List (LspId × Key)) (i : ℕ) (copy entry : LspId × Key) → IsRising entry_number xs → IsPlaceOf xs (entry_number copy) i → entry ≡ get_or xs i entry → rank (Some entry.1) ≤ rank (Some copy.1) → Joins xs (set xs i copy) copy
Joins-newer xs i copy entry up place read older =
    let lt = place.inside in
    let there : Contains (set xs i copy) copy = (i, omega (arith, length-set xs i copy), get_or-set_same xs i copy copy lt) in
    record {
      rising = IsRising-set entry_number xs i copy up lt place.here;
      among = λ e h. elim (cases_eq h.0 i) [
        | inl here ↦ inr (sym h.2 ∙ ap (λ (k : ℕ). get_or (set xs i copy) k e) here ∙ get_or-set_same xs i copy e lt)
        | inr other ↦ inl (h.0, omega (arith, length-set xs i copy, h.1), sym (get_or-set_other xs i h.0 copy e other) ∙ h.2)
      ];
      old_covered = λ e h. elim (cases_eq h.0 i) [
        | inl here ↦
            (let same : get_or xs i e ≡ e = ap (λ (k : ℕ). get_or xs k e) (sym here) ∙ h.2 in
            (copy, there, sym (ap entry_number (sym same) ∙ place.here e), subst (λ (x : LspId × Key). rank (Some x.1) ≤ rank (Some copy.1)) (at-each xs i entry lt read e ∙ same) older))
        | inr other ↦ HoldsAsNew-itself (set xs i copy) e (h.0, omega (arith, length-set xs i copy, h.1), get_or-set_other xs i h.0 copy e other ∙ h.2)
      ];
      copy_covered = HoldsAsNew-itself (set xs i copy) copy there;
    }

-- the key is as new as the one that is there, or older
pub Joins-older : (xs : List (LspId × Key)) (i : ℕ) (copy entry : LspId × Key) → IsRising entry_number xs → IsPlaceOf xs (entry_number copy) i → entry ≡ get_or xs i entry → rank (Some copy.1) ≤ rank (Some entry.1) → Joins xs xs copy
Joins-older xs i copy entry up place read newer = record {
  rising = up;
  among = λ e h. inl h;
  old_covered = λ e h. HoldsAsNew-itself xs e h;
  copy_covered = (
    get_or xs i copy,
    Contains-get_or xs i copy place.inside,
    place.here copy,
    subst (λ (x : LspId × Key). rank (Some copy.1) ≤ rank (Some x.1)) (at-each xs i entry place.inside read copy) newer,
  );
}

insert-among : (xs : List (LspId × Key)) (i : ℕ) (copy e : LspId × Key) → i ≤ length xs → Contains (insert xs i copy) e → Contains xs e ⊎ (e ≡ copy)
insert-among xs i copy e le h =
    let more = length-insert xs i copy le in
    elim (cases_order h.0 i) [
      | inl here ↦ inr (sym h.2 ∙ ap (λ (k : ℕ). get_or (insert xs i copy) k e) here ∙ get_or-insert_at xs i copy e le)
      | inr (inl low) ↦ inl (h.0, omega arith, sym (get_or-insert_below xs i copy e h.0 low le) ∙ h.2)
      | inr (inr high) ↦
          let back : h.0 - 1 + 1 ≡ h.0 = omega arith in
          inl (h.0 - 1, omega (arith, more, h.1), sym (get_or-insert_above xs i copy e (h.0 - 1) (omega arith) le) ∙ ap (λ (k : ℕ). get_or (insert xs i copy) k e) back ∙ h.2)
    ]

-- the LSP ID had no key
pub Joins-first : (xs : List (LspId × Key)) (i : ℕ) (copy : LspId × Key) → IsRising entry_number xs → IsGap entry_number xs (entry_number copy) i → Joins xs (insert xs i copy) copy
Joins-first xs i copy up g =
    let le = g.inside in
    let more = length-insert xs i copy le in
    let there : Contains (insert xs i copy) copy = (i, omega arith, get_or-insert_at xs i copy copy le) in
    record {
      rising = IsRising-insert entry_number xs i copy up le g;
      among = λ e h. insert-among xs i copy e le h;
      old_covered = λ e h. HoldsAsNew-itself (insert xs i copy) e (elim (cases_lt h.0 i) [
        | inl low ↦ (h.0, omega (arith, more, h.1), get_or-insert_below xs i copy e h.0 low le ∙ h.2)
        | inr high ↦ (h.0 + 1, omega (arith, more, h.1), get_or-insert_above xs i copy e h.0 high le ∙ h.2)
      ]);
      copy_covered = HoldsAsNew-itself (insert xs i copy) copy there;
    }

-- what a binary search by LSP ID answers
pub searched : (xs : List (LspId × Key)) (n : ℕ) (r : Result ℕ ℕ) → IsRising entry_number xs → IsSearchInRange r (length xs) → IsBinarySearchResult (λ y. nat_cmp (entry_number y) n) xs r → MatchResult r (λ i. IsPlaceOf xs n i) (λ i. IsGap entry_number xs n i)
searched xs n (Ok i) up lt h = found xs n i lt h
searched xs n (Err i) up le h = gap entry_number xs n i up le h
