-- What is known of parts, joined, is what is known of the whole.
use Rattle.std.proofs.Common.{◌≡◌, ℕ, zero, suc, ◌≤◌, ◌<◌, ◌==◌, nat_lt, ◌⊎◌, inl, inr, Bool, true, false, List, [], ◌∷◌, if◌then◌else◌, refl, sym, ap, ◌∙◌, arith}
use Rattle.std.specs.List.{AllByRecursion}
use Rattle.std.proofs.lemmas.Bool.{cases_eq}
use Rattle.std.proofs.lemmas.Bool.Decides.{nat_tests}
use Rattle.losses.specs.Trees.{Tree, places_from}
use Rattle.losses.specs.Schedules.{Schedule, schedules}
use Rattle.losses.specs.Counts.{Count, nothing, with_one, with_all}
use Rattle.losses.specs.Parts.{is_sooner, Worst, is_worse, worse_of, Sum, sum_of, joined, nothing_known, all_joined, part_of, of_part, AreParts}
use Rattle.losses.proofs.OrderLemmas.{not-before-none, no-worse, dearer, equal, are-joined}
use Rattle.losses.proofs.RisingLemmas.{IsAfter, InOrder, in-order, part-order}
use Rattle.losses.proofs.PartLemmas.{in-range, none-lost-at, only}

-- ---- sums that name no place at cost 0

abbrev IsGood : Sum → Type 0
IsGood a = a.worst.cost ≡ 0 → a.worst.places ≡ []

not-worse-none : (a : Sum) → IsGood a → is_worse a.worst nothing_known.worst ≡ false
not-worse-none a g = no-worse a.worst nothing_known.worst (let f : nat_lt a.worst.cost 0 ≡ false = grind (arith, nat_tests) in f) (λ e. ap (is_sooner []) (g e))

pub join-none : (a : Sum) → IsGood a → joined a nothing_known ≡ a
join-none a g = equal (joined a nothing_known) a (omega arith) (omega arith) (ap (λ (b : Bool). if b then nothing_known.worst else a.worst) (not-worse-none a g))

pub none-join : (a : Sum) → IsGood a → joined nothing_known a ≡ a
none-join a g = (are-joined nothing_known a a).order ∙ join-none a g

good-join : (a b : Sum) → IsGood a → IsGood b → IsGood (joined a b)
good-join a b g h = by (is_worse a.worst b.worst)
  where
    by : (c : Bool) → (if c then b.worst else a.worst).cost ≡ 0 → (if c then b.worst else a.worst).places ≡ []
    by true = h
    by false = g

-- ---- a list of schedules as a sum of each

one : Tree → ℕ → Schedule → Sum
one tree wanted s = sum_of tree (with_one wanted nothing s)

good-one : (tree : Tree) (wanted : ℕ) (s : Schedule) → IsGood (one tree wanted s)
unfolding one
good-one tree wanted s = by (nat_lt 0 s.cost) refl
  where
    by : (b : Bool) → nat_lt 0 s.cost ≡ b → (if b then s.cost else 0) ≡ 0 → places_from 0 tree (if b then s.fates else []) ≡ []
    by true e z = let l : 0 < s.cost = grind (arith, nat_tests, e) in absurd (omega (arith, l, z))
    by false e z = none-lost-at tree

all_ones : Tree → ℕ → List Schedule → Sum
all_ones tree wanted [] = nothing_known
all_ones tree wanted (s ∷ list) = joined (one tree wanted s) (all_ones tree wanted list)

good-all : (tree : Tree) (wanted : ℕ) (list : List Schedule) → IsGood (all_ones tree wanted list)
unfolding all_ones
good-all tree wanted [] = λ e. refl
good-all tree wanted (s ∷ list) = good-join (one tree wanted s) (all_ones tree wanted list) (good-one tree wanted s) (good-all tree wanted list)

step : (tree : Tree) (wanted : ℕ) (c : Count) (s : Schedule) → IsGood (sum_of tree c) → IsAfter tree c.named s
    → sum_of tree (with_one wanted c s) ≡ joined (sum_of tree c) (one tree wanted s)
unfolding one
step tree wanted c s g h = equal (sum_of tree (with_one wanted c s)) (joined (sum_of tree c) (sum_of tree (with_one wanted nothing s)))
    (omega arith) (omega arith) (by (nat_lt 0 s.cost) (nat_lt c.worst s.cost) refl refl)
  where
    here : Worst
    here = record { cost = c.worst; places = places_from 0 tree c.named }

    with_cost : Bool → Worst
    with_cost b = record { cost = if b then s.cost else 0; places = places_from 0 tree (if b then s.fates else []) }

    by : (r t : Bool) → nat_lt 0 s.cost ≡ r → nat_lt c.worst s.cost ≡ t
        → record { cost = if t then s.cost else c.worst; places = places_from 0 tree (if t then s.fates else c.named) } ≡ worse_of here (with_cost r)
    by true true e f = sym (ap (λ (b : Bool). if b then with_cost true else here) (dearer here (with_cost true) f))
    by true false e f = sym (ap (λ (b : Bool). if b then with_cost true else here) (no-worse here (with_cost true) f (λ _. h)))
    by false true e f = let k : 0 < s.cost = (let l : c.worst < s.cost = grind (arith, nat_tests, f) in omega (arith, l)) in absurd (let n : s.cost ≤ 0 = grind (arith, nat_tests, e) in omega (arith, n, k))
    by false false e f = sym (ap (λ (b : Bool). if b then with_cost false else here) (no-worse here (with_cost false) (let z : nat_lt c.worst 0 ≡ false = grind (arith, nat_tests) in z)
        (λ z. ap (λ (ps : List ℕ). is_sooner ps (places_from 0 tree c.named)) (none-lost-at tree) ∙ ap (is_sooner []) (g z))))

good-step : (tree : Tree) (wanted : ℕ) (c : Count) (s : Schedule) → IsGood (sum_of tree c) → IsGood (sum_of tree (with_one wanted c s))
good-step tree wanted c s g = by (nat_lt c.worst s.cost) refl
  where
    by : (t : Bool) → nat_lt c.worst s.cost ≡ t → (if t then s.cost else c.worst) ≡ 0 → places_from 0 tree (if t then s.fates else c.named) ≡ []
    by true e z = let l : c.worst < s.cost = grind (arith, nat_tests, e) in absurd (omega (arith, l, z))
    by false e z = g z

after-step : (tree : Tree) (wanted : ℕ) (c : Count) (s : Schedule) (list : List Schedule) → AllByRecursion (IsAfter tree c.named) list → AllByRecursion (IsAfter tree s.fates) list
    → AllByRecursion (IsAfter tree (with_one wanted c s).named) list
after-step tree wanted c s list a b = by (nat_lt c.worst s.cost)
  where
    by : (t : Bool) → AllByRecursion (IsAfter tree (if t then s.fates else c.named)) list
    by true = b
    by false = a

as-sum : (tree : Tree) (wanted : ℕ) (c : Count) (list : List Schedule) → IsGood (sum_of tree c) → AllByRecursion (IsAfter tree c.named) list → InOrder tree list
    → sum_of tree (with_all wanted c list) ≡ joined (sum_of tree c) (all_ones tree wanted list)
unfolding all_ones
as-sum tree wanted c [] g a o = sym (join-none (sum_of tree c) g)
as-sum tree wanted c (s ∷ list) g a o =
    as-sum tree wanted (with_one wanted c s) list (good-step tree wanted c s g) (after-step tree wanted c s list a.1 o.0) o.1
    ∙ ap (λ (x : Sum). joined x (all_ones tree wanted list)) (step tree wanted c s g a.0)
    ∙ (are-joined (sum_of tree c) (one tree wanted s) (all_ones tree wanted list)).groups

none-first : (tree : Tree) (list : List Schedule) → AllByRecursion (IsAfter tree []) list
none-first tree [] = tt
none-first tree (s ∷ list) = (ap (is_sooner (places_from 0 tree s.fates)) (none-lost-at tree) ∙ not-before-none (places_from 0 tree s.fates), none-first tree list)

told-sum : (tree : Tree) (wanted : ℕ) (list : List Schedule) → InOrder tree list → sum_of tree (with_all wanted nothing list) ≡ all_ones tree wanted list
told-sum tree wanted list o =
    as-sum tree wanted nothing list (λ e. none-lost-at tree) (none-first tree list) o
    ∙ ap (λ (ps : List ℕ). joined (record { schedules = 0; apart = 0; worst = record { cost = 0; places = ps } }) (all_ones tree wanted list)) (none-lost-at tree)
    ∙ none-join (all_ones tree wanted list) (good-all tree wanted list)

-- ---- a schedule more in one part

same-joined : (n k : ℕ) (x : Sum) (f g : ℕ → Sum) → n ≤ k → ((i : ℕ) → f i ≡ (if k == i then joined x (g i) else g i)) → all_joined n f ≡ all_joined n g
same-joined zero k x f g h e = refl
same-joined (suc n) k x f g h e =
    let other : (k == n) ≡ false = grind (arith, nat_tests, h) in
    ap (λ (s : Sum). joined s (all_joined n f)) (e n ∙ ap (λ (b : Bool). if b then joined x (g n) else g n) other)
    ∙ ap (joined (g n)) (same-joined n k x f g (omega (arith, h)) e)

one-joined : (n k : ℕ) (x : Sum) (f g : ℕ → Sum) → k < n → ((i : ℕ) → f i ≡ (if k == i then joined x (g i) else g i)) → all_joined n f ≡ joined x (all_joined n g)
one-joined zero k x f g h e = absurd (omega (arith, h))
one-joined (suc n) k x f g h e = by (cases_eq k n) (λ l. one-joined n k x f g l e)
  where
    by : ((k ≡ n) ⊎ (k ≡ n → ⊥)) → (k < n → all_joined n f ≡ joined x (all_joined n g)) → all_joined (suc n) f ≡ joined x (all_joined (suc n) g)
    by (inl q) more =
        let it : (k == n) ≡ true = grind (arith, nat_tests, q) in
        ap (λ (s : Sum). joined s (all_joined n f)) (e n ∙ ap (λ (b : Bool). if b then joined x (g n) else g n) it)
        ∙ ap (joined (joined x (g n))) (same-joined n k x f g (omega (arith, q)) e)
        ∙ (are-joined x (g n) (all_joined n g)).groups
    by (inr q) more =
        let it : (k == n) ≡ false = grind (arith, nat_tests, q) in
        let l : k < n = grind (arith, nat_tests, h, q) in
        ap (λ (s : Sum). joined s (all_joined n f)) (e n ∙ ap (λ (b : Bool). if b then joined x (g n) else g n) it)
        ∙ ap (joined (g n)) (more l)
        ∙ sym (are-joined (g n) x (all_joined n g)).groups
        ∙ ap (λ (s : Sum). joined s (all_joined n g)) (are-joined (g n) x x).order
        ∙ (are-joined x (g n) (all_joined n g)).groups

none-joined : (n : ℕ) → all_joined n (λ _. nothing_known) ≡ nothing_known
none-joined zero = refl
none-joined (suc n) = ap (joined nothing_known) (none-joined n) ∙ join-none nothing_known (λ e. refl)

all-parts : (tree : Tree) (wanted parts : ℕ) → 0 < parts → (list : List Schedule) → all_joined parts (λ part. all_ones tree wanted (of_part tree parts part list)) ≡ all_ones tree wanted list
unfolding all_ones
all-parts tree wanted parts h [] = none-joined parts
all-parts tree wanted parts h (s ∷ list) =
    one-joined parts (part_of parts (places_from 0 tree s.fates)) (one tree wanted s) (λ part. all_ones tree wanted (of_part tree parts part (s ∷ list))) (λ part. all_ones tree wanted (of_part tree parts part list))
    (in-range parts h (places_from 0 tree s.fates)) (λ i. by i (part_of parts (places_from 0 tree s.fates) == i))
    ∙ ap (joined (one tree wanted s)) (all-parts tree wanted parts h list)
  where
    by : (i : ℕ) (b : Bool) → all_ones tree wanted (if b then s ∷ of_part tree parts i list else of_part tree parts i list)
        ≡ (if b then joined (one tree wanted s) (all_ones tree wanted (of_part tree parts i list)) else all_ones tree wanted (of_part tree parts i list))
    by i true = refl
    by i false = refl

same-parts : (n : ℕ) (f g : ℕ → Sum) → ((i : ℕ) → f i ≡ g i) → all_joined n f ≡ all_joined n g
same-parts zero f g e = refl
same-parts (suc n) f g e = ap (λ (s : Sum). joined s (all_joined n f)) (e n) ∙ ap (joined (g n)) (same-parts n f g e)

pub are-parts : (tree : Tree) (most wanted parts : ℕ) → 0 < parts → AreParts tree most wanted parts
are-parts tree most wanted parts h = record {
  one = λ part places i. only tree parts part places (schedules tree most []) i;
  all = same-parts parts (λ part. sum_of tree (with_all wanted nothing (of_part tree parts part (schedules tree most [])))) (λ part. all_ones tree wanted (of_part tree parts part (schedules tree most [])))
      (λ part. told-sum tree wanted (of_part tree parts part (schedules tree most [])) (part-order tree parts part (schedules tree most []) (in-order tree most)))
      ∙ all-parts tree wanted parts h (schedules tree most [])
      ∙ sym (told-sum tree wanted (schedules tree most []) (in-order tree most));
}
