-- Schedules come in order of the places that they lose.
use Rattle.std.proofs.Common.{◌≡◌, ℕ, zero, suc, ◌+◌, ◌≤◌, ◌==◌, Bool, true, false, List, [], ◌∷◌, ◌++◌, if◌then◌else◌, sym, ap, ◌∙◌, subst, arith}
use Rattle.std.specs.List.{AllByRecursion}
use Rattle.losses.specs.Trees.{Tree, Ends, Comes, places_from}
use Rattle.losses.specs.Schedules.{Schedule, schedules}
use Rattle.losses.specs.Parts.{is_sooner, part_of, of_part}
use Rattle.losses.proofs.OnceLemmas.{lost_first, arrived_first, rests, shifted, no-place, all-of}
use Rattle.losses.proofs.OrderLemmas.{not-before-none, same-head, later-head}

-- the first loses no sooner than the second
abbrev NoSooner : ℕ → Tree → List Bool → List Bool → Type 0
NoSooner p t later first = is_sooner (places_from p t later) (places_from p t first) ≡ false

abbrev Rising : ℕ → Tree → List (List Bool) → Type 0
Rising p t [] = Unit {0}
Rising p t (r ∷ rs) = AllByRecursion (λ (later : List Bool). NoSooner p t later r) rs × Rising p t rs

all-append : {A : Type 0} (P : A → Type 0) (xs ys : List A) → AllByRecursion P xs → AllByRecursion P ys → AllByRecursion P (xs ++ ys)
all-append P [] ys h k = k
all-append P (x ∷ xs) ys h k = (h.0, all-append P xs ys h.1 k)

rising-append : (p : ℕ) (t : Tree) (xs ys : List (List Bool)) → Rising p t xs → Rising p t ys
    → AllByRecursion (λ (first : List Bool). AllByRecursion (λ (later : List Bool). NoSooner p t later first) ys) xs → Rising p t (xs ++ ys)
rising-append p t [] ys a b c = b
rising-append p t (x ∷ xs) ys a b c = (all-append (λ (later : List Bool). NoSooner p t later x) xs ys a.0 c.0, rising-append p t xs ys a.1 b c.1)

all-lost : (p : ℕ) (a l : Tree) (first : List Bool) (rs : List (List Bool)) → AllByRecursion (λ (later : List Bool). NoSooner (p + 1) l later first) rs
    → AllByRecursion (λ (later : List Bool). NoSooner p (Comes a l) later (true ∷ first)) (lost_first rs)
all-lost p a l first [] h = tt
all-lost p a l first (r ∷ rs) h = (same-head p (places_from (p + 1) l r) (places_from (p + 1) l first) ∙ h.0, all-lost p a l first rs h.1)

rising-lost : (p : ℕ) (a l : Tree) (rs : List (List Bool)) → Rising (p + 1) l rs → Rising p (Comes a l) (lost_first rs)
rising-lost p a l [] h = tt
rising-lost p a l (r ∷ rs) h = (all-lost p a l r rs h.0, rising-lost p a l rs h.1)

all-arrived : (p : ℕ) (a l : Tree) (first : List Bool) (rs : List (List Bool)) → AllByRecursion (λ (later : List Bool). NoSooner (p + 1) a later first) rs
    → AllByRecursion (λ (later : List Bool). NoSooner p (Comes a l) later (false ∷ first)) (arrived_first rs)
all-arrived p a l first [] h = tt
all-arrived p a l first (r ∷ rs) h = (h.0, all-arrived p a l first rs h.1)

rising-arrived : (p : ℕ) (a l : Tree) (rs : List (List Bool)) → Rising (p + 1) a rs → Rising p (Comes a l) (arrived_first rs)
rising-arrived p a l [] h = tt
rising-arrived p a l (r ∷ rs) h = (all-arrived p a l r rs h.0, rising-arrived p a l rs h.1)

-- ---- what is lost first

abbrev IsFrom : ℕ → List ℕ → Type 0
IsFrom p [] = ⊥
IsFrom p (x ∷ xs) = p ≤ x

from-less : (p : ℕ) (xs : List ℕ) → IsFrom (p + 1) xs → IsFrom p xs
from-less p [] h = h
from-less p (x ∷ xs) h = omega (arith, h)

lost-from : (p : ℕ) (a l : Tree) (rs : List (List Bool)) → AllByRecursion (λ (r : List Bool). IsFrom p (places_from p (Comes a l) r)) (lost_first rs)
lost-from p a l [] = tt
lost-from p a l (r ∷ rs) = (omega arith, lost-from p a l rs)

arrived-from : (p : ℕ) (a l : Tree) (rs : List (List Bool)) → AllByRecursion (λ (r : List Bool). IsFrom (p + 1) (places_from (p + 1) a r)) rs
    → AllByRecursion (λ (r : List Bool). IsFrom (p + 1) (places_from p (Comes a l) r)) (arrived_first rs)
arrived-from p a l [] h = tt
arrived-from p a l (r ∷ rs) h = (h.0, arrived-from p a l rs h.1)

less-all : (p : ℕ) (t : Tree) (rs : List (List Bool)) → AllByRecursion (λ (r : List Bool). IsFrom (p + 1) (places_from p t r)) rs → AllByRecursion (λ (r : List Bool). IsFrom p (places_from p t r)) rs
less-all p t [] h = tt
less-all p t (r ∷ rs) h = (from-less p (places_from p t r) h.0, less-all p t rs h.1)

all-from : (t : Tree) (p most : ℕ) → AllByRecursion (λ (r : List Bool). IsFrom p (places_from p t r)) (rests t most)
all-from (Ends cost) p most = tt
all-from (Comes a l) p zero = tt
all-from (Comes a l) p (suc most) =
    all-append (λ (r : List Bool). IsFrom p (places_from p (Comes a l) r)) (lost_first ([] ∷ rests l most)) (arrived_first (rests a (suc most)))
    (lost-from p a l ([] ∷ rests l most))
    (less-all p (Comes a l) (arrived_first (rests a (suc most))) (arrived-from p a l (rests a (suc most)) (all-from a (p + 1) (suc most))))

after-lost : (p : ℕ) (a l : Tree) (r : List Bool) (ys : List (List Bool)) → AllByRecursion (λ (r : List Bool). IsFrom (p + 1) (places_from p (Comes a l) r)) ys
    → AllByRecursion (λ (later : List Bool). NoSooner p (Comes a l) later (true ∷ r)) ys
after-lost p a l r [] h = tt
after-lost p a l r (y ∷ ys) h = (by (places_from p (Comes a l) y) h.0, after-lost p a l r ys h.1)
  where
    by : (places : List ℕ) → IsFrom (p + 1) places → is_sooner places (p ∷ places_from (p + 1) l r) ≡ false
    by [] h = absurd h
    by (x ∷ xs) h = later-head x p xs (places_from (p + 1) l r) (omega (arith, h))

cross : (p : ℕ) (a l : Tree) (rs ys : List (List Bool)) → AllByRecursion (λ (r : List Bool). IsFrom (p + 1) (places_from p (Comes a l) r)) ys
    → AllByRecursion (λ (first : List Bool). AllByRecursion (λ (later : List Bool). NoSooner p (Comes a l) later first) ys) (lost_first rs)
cross p a l [] ys h = tt
cross p a l (r ∷ rs) ys h = (after-lost p a l r ys h, cross p a l rs ys h)

-- ---- all of them

none-before : (p : ℕ) (t : Tree) (rs : List (List Bool)) → AllByRecursion (λ (later : List Bool). NoSooner p t later []) rs
none-before p t [] = tt
none-before p t (r ∷ rs) = (ap (is_sooner (places_from p t r)) (no-place p t) ∙ not-before-none (places_from p t r), none-before p t rs)

rising : (t : Tree) (p most : ℕ) → Rising p t (rests t most)
rising (Ends cost) p most = tt
rising (Comes a l) p zero = tt
rising (Comes a l) p (suc most) = rising-append p (Comes a l) (lost_first ([] ∷ rests l most)) (arrived_first (rests a (suc most)))
    (rising-lost p a l ([] ∷ rests l most) (none-before (p + 1) l (rests l most), rising l (p + 1) most))
    (rising-arrived p a l (rests a (suc most)) (rising a (p + 1) (suc most)))
    (cross p a l ([] ∷ rests l most) (arrived_first (rests a (suc most))) (arrived-from p a l (rests a (suc most)) (all-from a (p + 1) (suc most))))

-- ---- as schedules

-- a schedule loses no sooner than these fates
abbrev pub IsAfter : Tree → List Bool → Schedule → Type 0
IsAfter t first s = is_sooner (places_from 0 t s.fates) (places_from 0 t first) ≡ false

abbrev pub InOrder : Tree → List Schedule → Type 0
InOrder t [] = Unit {0}
InOrder t (s ∷ list) = AllByRecursion (IsAfter t s.fates) list × InOrder t list

to-after : (t : Tree) (first : List Bool) (rs : List (List Bool)) → AllByRecursion (λ (later : List Bool). NoSooner 0 t later first) rs → AllByRecursion (IsAfter t first) (shifted t [] rs)
to-after t first [] h = tt
to-after t first (r ∷ rs) h = (h.0, to-after t first rs h.1)

to-order : (t : Tree) (rs : List (List Bool)) → Rising 0 t rs → InOrder t (shifted t [] rs)
to-order t [] h = tt
to-order t (r ∷ rs) h = (to-after t r rs h.0, to-order t rs h.1)

pub in-order : (t : Tree) (most : ℕ) → InOrder t (schedules t most [])
in-order t most = subst (InOrder t) (sym (all-of t most)) (to-order t ([] ∷ rests t most) (none-before 0 t (rests t most), rising t 0 most))

part-after : (t : Tree) (parts part : ℕ) (first : List Bool) (list : List Schedule) → AllByRecursion (IsAfter t first) list → AllByRecursion (IsAfter t first) (of_part t parts part list)
part-after t parts part first [] h = tt
part-after t parts part first (s ∷ list) h = by (part_of parts (places_from 0 t s.fates) == part) (part-after t parts part first list h.1)
  where
    by : (b : Bool) → AllByRecursion (IsAfter t first) (of_part t parts part list) → AllByRecursion (IsAfter t first) (if b then s ∷ of_part t parts part list else of_part t parts part list)
    by true k = (h.0, k)
    by false k = k

pub part-order : (t : Tree) (parts part : ℕ) (list : List Schedule) → InOrder t list → InOrder t (of_part t parts part list)
part-order t parts part [] h = tt
part-order t parts part (s ∷ list) h = by (part_of parts (places_from 0 t s.fates) == part) (part-order t parts part list h.1)
  where
    by : (b : Bool) → InOrder t (of_part t parts part list) → InOrder t (if b then s ∷ of_part t parts part list else of_part t parts part list)
    by true k = (part-after t parts part s.fates list h.0, k)
    by false k = k
