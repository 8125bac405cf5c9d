-- The entries of labels at the places of two passes joined.
use Rattle.std.proofs.Common.{◌≡◌, ℕ, suc, ◌+◌, ◌<◌, ◌≤◌, true, false, List, [], ◌∷◌, ◌++◌, length, if◌then◌else◌, ⊎_elim, sym, refl, ap, ◌∙◌, subst, arith}
use Rattle.std.proofs.lemmas.Bool.Decides.{leb_tells}
use mathlib.Core.List.{IsPrefix}
use Rattle.turn_lock.specs.Views.{times}
use Rattle.turn_lock.proofs.Sums.{times-append}
use Rattle.circuit_threads.specs.declared.entry.JournalEntry.{JournalEntry}
use Rattle.circuit_threads.specs.declared.entry.Note.{Note}
use Rattle.circuit_serve.specs.Labels.{of_label, picked}
use Rattle.circuit_serve.proofs.Picks.{picks, passes, picks_beyond}
use Rattle.circuit_serve.specs.Labels.{by_label}
use Rattle.circuit_serve.proofs.ByLabels.{label_more}

both_empty : (xs ys : List JournalEntry) → xs ++ ys ≡ [] → (xs ≡ []) × (ys ≡ [])
both_empty [] ys h = (refl, h)
both_empty (x ∷ xs) ys h = absurd (cc h)

-- what lies at others' places and has nothing of the label adds nothing
pub join_left : (c p : ℕ) (a b : List ℕ) (ns : List Note) → of_label c (picked p b ns) ≡ [] → of_label c (picked p (a ++ b) ns) ≡ of_label c (picked p a ns)
join_left c p a b [] h = refl
join_left c p a b (n ∷ ns) h =
    let sum : times p (a ++ b) ≡ times p a + times p b = times-append p a b in
    let one : List JournalEntry = of_label c (n ∷ []) in
    ⊎_elim
    (λ (t : (Rattle.std.specs.Prelude.leb 1 (times p b) ≡ true) × (1 ≤ times p b)).
    let e = both_empty one (of_label c (picked (p + 1) b ns)) (sym (label_more c (n ∷ []) (picked (p + 1) b ns)) ∙ (ap (of_label c) (sym (picks p b n ns t.1)) ∙ h)) in
    let rest : of_label c (picked (p + 1) (a ++ b) ns) ≡ of_label c (picked (p + 1) a ns) = join_left c (p + 1) a b ns e.1 in
    let both : of_label c (picked p (a ++ b) (n ∷ ns)) ≡ of_label c (picked (p + 1) a ns) = ap (of_label c) (picks p (a ++ b) n ns (omega (arith, sum, t.1))) ∙ (label_more c (n ∷ []) (picked (p + 1) (a ++ b) ns) ∙ (ap (λ z. z ++ of_label c (picked (p + 1) (a ++ b) ns)) e.0 ∙ rest)) in
    ⊎_elim
    (λ (u : (Rattle.std.specs.Prelude.leb 1 (times p a) ≡ true) × (1 ≤ times p a)).
    both ∙ sym (ap (of_label c) (picks p a n ns u.1) ∙ (label_more c (n ∷ []) (picked (p + 1) a ns) ∙ ap (λ z. z ++ of_label c (picked (p + 1) a ns)) e.0)))
    (λ (u : (Rattle.std.specs.Prelude.leb 1 (times p a) ≡ false) × (times p a < 1)). let none : times p a ≡ 0 = omega (arith, u.1) in both ∙ ap (of_label c) (sym (passes p a n ns none)))
    (leb_tells 1 (times p a)))
    (λ (t : (Rattle.std.specs.Prelude.leb 1 (times p b) ≡ false) × (times p b < 1)).
    let none_b : times p b ≡ 0 = omega (arith, t.1) in
    let rest : of_label c (picked (p + 1) (a ++ b) ns) ≡ of_label c (picked (p + 1) a ns) = join_left c (p + 1) a b ns (ap (of_label c) (sym (passes p b n ns none_b)) ∙ h) in
    ⊎_elim
    (λ (u : (Rattle.std.specs.Prelude.leb 1 (times p a) ≡ true) × (1 ≤ times p a)).
    ap (of_label c) (picks p (a ++ b) n ns (omega (arith, sum, u.1))) ∙ (label_more c (n ∷ []) (picked (p + 1) (a ++ b) ns) ∙ (ap (λ z. one ++ z) rest ∙ (sym (label_more c (n ∷ []) (picked (p + 1) a ns)) ∙ ap (of_label c) (sym (picks p a n ns u.1))))))
    (λ (u : (Rattle.std.specs.Prelude.leb 1 (times p a) ≡ false) × (times p a < 1)). let none : times p a ≡ 0 = omega (arith, u.1) in
    ap (of_label c) (passes p (a ++ b) n ns (omega (arith, sum, none, none_b))) ∙ (rest ∙ ap (of_label c) (sym (passes p a n ns none))))
    (leb_tells 1 (times p a)))
    (leb_tells 1 (times p b))

picked_same : (p : ℕ) (a b : List ℕ) (ns : List Note) → ((x : ℕ) → times x a ≡ times x b) → picked p a ns ≡ picked p b ns
picked_same p a b [] same = refl
picked_same p a b (n ∷ ns) same =
    ap (λ t. if Rattle.std.specs.Prelude.leb 1 t then n ∷ picked (p + 1) a ns else picked (p + 1) a ns) (same p)
    ∙ ap (λ z. if Rattle.std.specs.Prelude.leb 1 (times p b) then n ∷ z else z) (picked_same (p + 1) a b ns same)

pub join_right : (c p : ℕ) (a b : List ℕ) (ns : List Note) → of_label c (picked p a ns) ≡ [] → of_label c (picked p (a ++ b) ns) ≡ of_label c (picked p b ns)
join_right c p a b ns h = ap (of_label c) (picked_same p (a ++ b) (b ++ a) ns (λ x. let e : times x (a ++ b) ≡ times x a + times x b = times-append x a b in let f : times x (b ++ a) ≡ times x b + times x a = times-append x b a in omega (arith, e, f))) ∙ join_left c p b a ns h

-- what was seen later is at others' places
pub by_later : (c : ℕ) (own : List ℕ) (ns all : List Note) → IsPrefix ns all → ((x : ℕ) → 0 < times x own → x < length ns) → by_label c own all ≡ by_label c own ns
by_later c own ns all begins low = ap (of_label c) (ap (picked 0 own) (sym begins.1) ∙ picks_beyond 0 own ns begins.0 (λ x s. let l = low x s in omega (arith, l)))

module _ (a b r : List ℕ) (s t all : List Note) (both : r ≡ a ++ b) (begins : IsPrefix s all) (begins' : IsPrefix t all) (low : (x : ℕ) → 0 < times x a → x < length s) (low' : (x : ℕ) → 0 < times x b → x < length t) where
  -- a label of which the second has nothing, and one of which the first has nothing
  pub by_first : (c : ℕ) → by_label c b t ≡ [] → by_label c r all ≡ by_label c a s
  by_first c none = ap (λ z. by_label c z all) both ∙ (join_left c 0 a b all (by_later c b t all begins' low' ∙ none) ∙ by_later c a s all begins low)

  pub by_second : (c : ℕ) → by_label c a s ≡ [] → by_label c r all ≡ by_label c b t
  by_second c none = ap (λ z. by_label c z all) both ∙ (join_right c 0 a b all (by_later c a s all begins low ∙ none) ∙ by_later c b t all begins' low')

-- where every place is one's own, all is picked
pub picked_all : (p : ℕ) (own : List ℕ) (ns : List Note) → ((i : ℕ) → i < length ns → 0 < times (p + i) own) → picked p own ns ≡ ns
picked_all p own [] every = refl
picked_all p own (n ∷ ns) every =
    let here : 0 < times p own = subst (λ z. 0 < times z own) (let e : p + 0 ≡ p = omega arith in e) (every 0 (omega arith)) in
    picks p own n ns here ∙ ap (λ z. n ∷ z) (picked_all (p + 1) own ns (λ i l. let e : p + suc i ≡ (p + 1) + i = omega arith in subst (λ z. 0 < times z own) e (every (suc i) (omega (arith, l)))))
