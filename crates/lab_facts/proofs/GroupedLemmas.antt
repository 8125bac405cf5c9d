-- Labels are one list alone, so groups are a function of the pairs.
use Rattle.std.proofs.Common.{◌≡◌, ℕ, zero, suc, ◌+◌, ◌<◌, ◌≤◌, Bool, true, false, ◌&&◌, List, [], ◌∷◌, ◌++◌, length, slice_get, slice_index, if◌then◌else◌, refl, sym, ap, ◌∙◌, subst, arith, append_assoc, append-nil}
use Rattle.lab_facts.specs.Parents.{AreOwn, AreLabels, merged}
use Rattle.lab_facts.specs.Joined.{AreGroups}
use Rattle.lab_facts.specs.Tags.{is_on, labelled_groups}
use Rattle.lab_facts.specs.Grouped.{with_pair, with_pairs, numbers_from, groups_of}
use Rattle.lab_facts.proofs.GroupLemmas.{groups-are}
use Rattle.lab_facts.proofs.LabelLemmas.{leads-same, labels-merge, labels-skip, labels-none, part-from, part-not}

-- ---- numbers in order

numbers-count : (n count : ℕ) → length (numbers_from n count) ≡ count
numbers-count n zero = refl
numbers-count n (suc count) = ap (λ (k : ℕ). suc k) (numbers-count (n + 1) count)

numbers-own : (n count r : ℕ) → r < count → slice_index (numbers_from n count) r ≡ n + r
numbers-own n zero r h = absurd (omega (arith, h))
numbers-own n (suc count) zero h = omega arith
numbers-own n (suc count) (suc r) h = let rest = numbers-own (n + 1) count r (omega (arith, h)) in omega (arith, rest)

numbers-are : (count : ℕ) → AreOwn (numbers_from 0 count) count
numbers-are count = record { size = numbers-count 0 count; own = λ r h. let e = numbers-own 0 count r h in omega (arith, e) }

-- ---- the labels of all pairs

one-pair : (runs : List Bool) (ps : List (ℕ × ℕ)) (p : ℕ × ℕ) (labels : List ℕ) (near far : Bool) → is_on (slice_get runs p.0) ≡ near → is_on (slice_get runs p.1) ≡ far → AreLabels runs ps labels
    → AreLabels runs (ps ++ p ∷ []) (if near && far then merged labels p.0 p.1 else labels)
one-pair runs ps p labels true true a b l = labels-merge runs ps p labels l (part-from runs p.0 a) (part-from runs p.1 b)
one-pair runs ps p labels true false a b l = labels-skip runs ps p labels l (λ near far. part-not runs p.1 b far)
one-pair runs ps p labels false far a b l = labels-skip runs ps p labels l (λ near far. part-not runs p.0 a near)

all-pairs : (runs : List Bool) (before ps : List (ℕ × ℕ)) (labels : List ℕ) → AreLabels runs before labels → AreLabels runs (before ++ ps) (with_pairs runs labels ps)
all-pairs runs before [] labels l = subst (λ (qs : List (ℕ × ℕ)). AreLabels runs qs labels) (sym (append-nil before)) l
all-pairs runs before (p ∷ ps) labels l =
    subst (λ (qs : List (ℕ × ℕ)). AreLabels runs qs (with_pairs runs (with_pair runs labels p) ps)) (append_assoc before (p ∷ []) ps)
    (all-pairs runs (before ++ p ∷ []) ps (with_pair runs labels p) (one-pair runs before p labels (is_on (slice_get runs p.0)) (is_on (slice_get runs p.1)) refl refl l))

-- ---- two lists of labels are one

least : (runs : List Bool) (ps : List (ℕ × ℕ)) (a b : List ℕ) → AreLabels runs ps a → AreLabels runs ps b → (r : ℕ) → r < length runs → slice_index b r ≤ slice_index a r
least runs ps a b l m r h =
    let low = l.below r h in
    let same = leads-same runs ps b r (slice_index a r) m (l.leads r h) in
    let below = m.below (slice_index a r) (omega (arith, low, h)) in
    omega (arith, same, below)

all-same : (a b : List ℕ) → length a ≡ length b → ((r : ℕ) → r < length a → slice_index a r ≡ slice_index b r) → a ≡ b
all-same [] [] e f = refl
all-same [] (y ∷ b) e f = absurd (omega (arith, e))
all-same (x ∷ a) [] e f = absurd (omega (arith, e))
all-same (x ∷ a) (y ∷ b) e f =
    ap (λ (n : ℕ). n ∷ a) (f 0 (omega arith)) ∙ ap (λ (c : List ℕ). y ∷ c) (all-same a b (omega (arith, e)) (λ r h. f (suc r) (omega (arith, h))))

pub labels-one : (runs : List Bool) (ps : List (ℕ × ℕ)) (a b : List ℕ) → AreLabels runs ps a → AreLabels runs ps b → a ≡ b
labels-one runs ps a b l m = all-same a b (l.size ∙ sym m.size) (λ r h.
    let here : r < length runs = omega (arith, h, l.size) in
    let low = least runs ps a b l m r here in
    let high = least runs ps b a m l r here in
    omega (arith, low, high))

labels-all : (runs : List Bool) (ps : List (ℕ × ℕ)) → AreLabels runs ps (with_pairs runs (numbers_from 0 (length runs)) ps)
labels-all runs ps = all-pairs runs [] ps (numbers_from 0 (length runs)) (labels-none runs (numbers_from 0 (length runs)) (numbers-are (length runs)))

-- the groups of whichever pairs
pub groups-of : (runs : List Bool) (ps : List (ℕ × ℕ)) → AreGroups runs ps (groups_of runs ps)
unfolding groups_of
groups-of runs ps = groups-are runs ps (with_pairs runs (numbers_from 0 (length runs)) ps) (labels-all runs ps)

pub labels-of : (runs : List Bool) (ps : List (ℕ × ℕ)) (labels : List ℕ) → AreLabels runs ps labels → labelled_groups runs labels (length runs) ≡ groups_of runs ps
unfolding groups_of
labels-of runs ps labels l =
    ap (λ (ls : List ℕ). labelled_groups runs ls (length runs))
    (labels-one runs ps labels (with_pairs runs (numbers_from 0 (length runs)) ps) l (labels-all runs ps))
