-- Forests where one router gets another parent.
use Rattle.std.proofs.Common.{◌≡◌, ℕ, ◌<◌, ◌≤◌, ⊎_elim, List, get_or, set, map, max, min, slice_index, sym, ap, ◌∙◌, subst, arith}
use Rattle.std.proofs.lemmas.Bool.{cases_eq}
use Rattle.std.proofs.lemmas.Bool.Decides.{nat_tests}
use Rattle.std.proofs.lemmas.List.{length-set, length-map, get_or-set_same, get_or-set_other, get_or-map}
use Rattle.lab_facts.specs.Parents.{AreParents, HaveRoots, replaced}

-- a router's parent is another one that isn't greater
pub parents-set : (parents : List ℕ) (n i y : ℕ) → AreParents parents n → i < n → y ≤ i → AreParents (set parents i y) n
parents-set parents n i y p within le = record {
  size = length-set parents i y ∙ p.size;
  below = λ r h. ⊎_elim
      (λ (e : r ≡ i). subst (λ (k : ℕ). get_or (set parents i y) k 0 ≤ k) (sym e) (subst (λ (z : ℕ). z ≤ i) (sym (get_or-set_same parents i y 0 (subst (λ (k : ℕ). i < k) (sym p.size) within))) le))
      (λ (ne : r ≡ i → ⊥). subst (λ (z : ℕ). z ≤ r) (sym (get_or-set_other parents i r y 0 ne)) (p.below r h))
      (cases_eq r i);
}

-- a router's parent is another one of its root
pub roots-set : (parents roots : List ℕ) (n i y : ℕ) → AreParents parents n → HaveRoots parents roots n → i < n → slice_index roots y ≡ slice_index roots i → (y ≡ i → slice_index roots i ≡ i) → HaveRoots (set parents i y) roots n
roots-set parents roots n i y p h within same own = record {
  size = h.size;
  same = λ r less. ⊎_elim
      (λ (e : r ≡ i). subst (λ (k : ℕ). get_or roots (get_or (set parents i y) k 0) 0 ≡ get_or roots k 0) (sym e) (ap (λ (z : ℕ). get_or roots z 0) at-i ∙ same))
      (λ (ne : r ≡ i → ⊥). ap (λ (z : ℕ). get_or roots z 0) (get_or-set_other parents i r y 0 ne) ∙ h.same r less)
      (cases_eq r i);
  own = λ r less is. ⊎_elim
      (λ (e : r ≡ i). subst (λ (k : ℕ). get_or roots k 0 ≡ k) (sym e) (own (sym at-i ∙ (ap (λ (k : ℕ). get_or (set parents i y) k 0) (sym e) ∙ (is ∙ e)))))
      (λ (ne : r ≡ i → ⊥). h.own r less (sym (get_or-set_other parents i r y 0 ne) ∙ is))
      (cases_eq r i);
}
  where
    at-i : get_or (set parents i y) i 0 ≡ y
    at-i = get_or-set_same parents i y 0 (subst (λ (k : ℕ). i < k) (sym p.size) within)

pub replaced-old : (old new : ℕ) → replaced old new old ≡ new
replaced-old old new = grind (arith, nat_tests)

pub replaced-new : (old new : ℕ) → replaced old new new ≡ new
replaced-new old new = grind (arith, nat_tests)

pub replaced-other : (old new root : ℕ) → (root ≡ old → ⊥) → replaced old new root ≡ root
replaced-other old new root ne = grind (arith, nat_tests)

-- one root becomes another's child
pub roots-merge : (parents roots : List ℕ) (n lo hi : ℕ) → AreParents parents n → HaveRoots parents roots n → lo < n → hi < n → slice_index roots lo ≡ lo → slice_index roots hi ≡ hi → HaveRoots (set parents hi lo) (map (replaced hi lo) roots) n
roots-merge parents roots n lo hi p h within-lo within own-lo own-hi = record {
  size = length-map roots (replaced hi lo) ∙ h.size;
  same = λ r less. ⊎_elim
      (λ (e : r ≡ hi). subst (λ (k : ℕ). get_or (map (replaced hi lo) roots) (get_or (set parents hi lo) k 0) 0 ≡ get_or (map (replaced hi lo) roots) k 0) (sym e)
      (ap (λ (z : ℕ). get_or (map (replaced hi lo) roots) z 0) at-hi ∙ (new lo within-lo ∙ (ap (replaced hi lo) own-lo ∙ (replaced-new hi lo ∙ sym (new hi within ∙ (ap (replaced hi lo) own-hi ∙ replaced-old hi lo)))))))
      (λ (ne : r ≡ hi → ⊥). ap (λ (z : ℕ). get_or (map (replaced hi lo) roots) z 0) (get_or-set_other parents hi r lo 0 ne) ∙ (new (get_or parents r 0) (below r less) ∙ (ap (replaced hi lo) (h.same r less) ∙ sym (new r less))))
      (cases_eq r hi);
  own = λ r less is. ⊎_elim
      (λ (e : r ≡ hi). let is-lo : lo ≡ hi = sym at-hi ∙ (ap (λ (k : ℕ). get_or (set parents hi lo) k 0) (sym e) ∙ (is ∙ e)) in
      new r less ∙ (ap (λ (k : ℕ). replaced hi lo (get_or roots k 0)) e ∙ (ap (replaced hi lo) own-hi ∙ (replaced-old hi lo ∙ (is-lo ∙ sym e)))))
      (λ (ne : r ≡ hi → ⊥). new r less ∙ (ap (replaced hi lo) (h.own r less (sym (get_or-set_other parents hi r lo 0 ne) ∙ is)) ∙ replaced-other hi lo r ne))
      (cases_eq r hi);
}
  where
    at-hi : get_or (set parents hi lo) hi 0 ≡ lo
    at-hi = get_or-set_same parents hi lo 0 (subst (λ (k : ℕ). hi < k) (sym p.size) within)

    new : (r : ℕ) → r < n → get_or (map (replaced hi lo) roots) r 0 ≡ replaced hi lo (get_or roots r 0)
    new r less = get_or-map (replaced hi lo) roots r 0 0 (subst (λ (k : ℕ). r < k) (sym h.size) less)

    below : (r : ℕ) → r < n → get_or parents r 0 < n
    below r less = omega (arith, p.below r less, less)

-- two classes are one: the first one's root is the lesser, or the second one's
pub merge-first : (parents roots : List ℕ) (n x y a b : ℕ) → AreParents parents n → HaveRoots parents roots n → x < n → y < n → x ≡ a → y ≡ b → slice_index roots x ≡ x → slice_index roots y ≡ y → x ≤ y → HaveRoots (set parents y x) (map (replaced (max a b) (min a b)) roots) n
merge-first parents roots n x y a b p h within-x within-y is-a is-b own-x own-y le =
    subst (λ (hi : ℕ). HaveRoots (set parents y x) (map (replaced hi (min a b)) roots) n) (the-max is-a is-b)
    (subst (λ (lo : ℕ). HaveRoots (set parents y x) (map (replaced y lo) roots) n) (the-min is-a is-b)
    (roots-merge parents roots n x y p h within-x within-y own-x own-y))
  where
    the-max : x ≡ a → y ≡ b → y ≡ max a b
    the-max e f = omega (arith, e, f, le)

    the-min : x ≡ a → y ≡ b → x ≡ min a b
    the-min e f = omega (arith, e, f, le)

pub merge-second : (parents roots : List ℕ) (n x y a b : ℕ) → AreParents parents n → HaveRoots parents roots n → x < n → y < n → x ≡ a → y ≡ b → slice_index roots x ≡ x → slice_index roots y ≡ y → y ≤ x → HaveRoots (set parents x y) (map (replaced (max a b) (min a b)) roots) n
merge-second parents roots n x y a b p h within-x within-y is-a is-b own-x own-y le =
    subst (λ (hi : ℕ). HaveRoots (set parents x y) (map (replaced hi (min a b)) roots) n) (the-max is-a is-b)
    (subst (λ (lo : ℕ). HaveRoots (set parents x y) (map (replaced x lo) roots) n) (the-min is-a is-b)
    (roots-merge parents roots n y x p h within-y within-x own-y own-x))
  where
    the-max : x ≡ a → y ≡ b → x ≡ max a b
    the-max e f = omega (arith, e, f, le)

    the-min : x ≡ a → y ≡ b → y ≡ min a b
    the-min e f = omega (arith, e, f, le)
