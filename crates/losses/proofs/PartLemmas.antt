-- Parts are all schedules, each in one.
use Rattle.std.proofs.Common.{◌≡◌, ℕ, zero, suc, ◌+◌, ◌-◌, ◌%◌, ◌<◌, ◌==◌, inl, inr, Bool, true, false, List, [], ◌∷◌, ◌++◌, length, if◌then◌else◌, refl, sym, ap, ◌∙◌, subst, arith}
use Rattle.std.specs.List.{AllByRecursion}
use Rattle.std.proofs.lemmas.List.{append_assoc, append-nil, length-append}
use Rattle.std.proofs.lemmas.List.Sums.{fold-append}
use Rattle.std.proofs.lemmas.Nat.{mod_below}
use Rattle.std.proofs.lemmas.Bool.Decides.{nat_tests}
use Rattle.losses.specs.declared.fault.LossesFault.{LossesFault}
use Rattle.losses.specs.declared.fault.LossesFault.TheVariants.{TooMany, Limit, OutOfMemory}
use Rattle.losses.specs.Trees.{Tree, Ends, Comes, quiet_cost, places_from}
use Rattle.losses.specs.Schedules.{Schedule, schedules, with_losses}
use Rattle.losses.specs.Counts.{Count, nothing, with_one, with_all}
use Rattle.losses.specs.Claims.{LosesAmong, IsWorst}
use Rattle.losses.specs.Parts.{part_of, of_part}
use Rattle.losses.specs.PartsLeft.{first_schedule, part_losses}
use Rattle.losses.specs.Causes.{Cause}
use Rattle.losses.proofs.TreeLemmas.{counted-all}
use Rattle.losses.proofs.WorstLemmas.{worst}

pub in-range : (parts : ℕ) → 0 < parts → (places : List ℕ) → part_of parts places < parts
in-range parts h [] = h
in-range parts h (p ∷ places) = mod_below p parts h

pub only : (tree : Tree) (parts part : ℕ) (places : List ℕ) (list : List Schedule) → LosesAmong tree places (of_part tree parts part list) → part ≡ part_of parts places
only tree parts part places [] h = absurd h
only tree parts part places (s ∷ list) h = by (part_of parts (places_from 0 tree s.fates) == part) refl (λ i. only tree parts part places list i) h
  where
    by : (b : Bool) → (part_of parts (places_from 0 tree s.fates) == part) ≡ b → (LosesAmong tree places (of_part tree parts part list) → part ≡ part_of parts places)
        → LosesAmong tree places (if b then s ∷ of_part tree parts part list else of_part tree parts part list) → part ≡ part_of parts places
    by true e more (inl q) = let it : part_of parts (places_from 0 tree s.fates) ≡ part = grind (arith, nat_tests, e) in sym it ∙ ap (part_of parts) q
    by true e more (inr i) = more i
    by false e more i = more i

-- ---- the schedules of a part, as they are played

-- a schedule has these fates first
record Begins (begun : List Bool) (s : Schedule) : Type 0 where
  more : List Bool
  is : s.fates ≡ begun ++ more

begins-append : (begun : List Bool) (xs ys : List Schedule) → AllByRecursion (Begins begun) xs → AllByRecursion (Begins begun) ys → AllByRecursion (Begins begun) (xs ++ ys)
begins-append begun [] ys p q = q
begins-append begun (x ∷ xs) ys p q = (p.0, begins-append begun xs ys p.1 q)

begins-sooner : (begun : List Bool) (b : Bool) (list : List Schedule) → AllByRecursion (Begins (begun ++ (b ∷ []))) list → AllByRecursion (Begins begun) list
begins-sooner begun b [] h = tt
begins-sooner begun b (s ∷ list) h = (record { more = b ∷ h.0.more; is = h.0.is ∙ append_assoc begun (b ∷ []) h.0.more }, begins-sooner begun b list h.1)

losses-begin : (t : Tree) (most : ℕ) (begun : List Bool) → AllByRecursion (Begins begun) (with_losses t most begun)
losses-begin (Ends cost) most begun = tt
losses-begin (Comes a l) zero begun = tt
losses-begin (Comes a l) (suc most) begun = (
  record { more = true ∷ []; is = refl },
  begins-append begun (with_losses l most (begun ++ (true ∷ []))) (with_losses a (suc most) (begun ++ (false ∷ [])))
      (begins-sooner begun true (with_losses l most (begun ++ (true ∷ []))) (losses-begin l most (begun ++ (true ∷ []))))
      (begins-sooner begun false (with_losses a (suc most) (begun ++ (false ∷ []))) (losses-begin a (suc most) (begun ++ (false ∷ [])))),
)

all-begin : (t : Tree) (most : ℕ) (begun : List Bool) → AllByRecursion (Begins begun) (schedules t most begun)
all-begin t most begun = (record { more = []; is = sym (append-nil begun) }, losses-begin t most begun)

of-append : (tree : Tree) (parts part : ℕ) (xs ys : List Schedule) → of_part tree parts part (xs ++ ys) ≡ of_part tree parts part xs ++ of_part tree parts part ys
of-append tree parts part [] ys = refl
of-append tree parts part (s ∷ xs) ys = by (part_of parts (places_from 0 tree s.fates) == part) (of-append tree parts part xs ys)
  where
    by : (b : Bool) → of_part tree parts part (xs ++ ys) ≡ of_part tree parts part xs ++ of_part tree parts part ys
        → (if b then s ∷ of_part tree parts part (xs ++ ys) else of_part tree parts part (xs ++ ys)) ≡ (if b then s ∷ of_part tree parts part xs else of_part tree parts part xs) ++ of_part tree parts part ys
    by true e = ap (λ (list : List Schedule). s ∷ list) e
    by false e = e

abbrev none : List Schedule
none = []

-- all are in one part
all-in : (tree : Tree) (parts part k : ℕ) (list : List Schedule) → AllByRecursion (λ (s : Schedule). part_of parts (places_from 0 tree s.fates) ≡ k) list
    → of_part tree parts part list ≡ (if k == part then list else [])
all-in tree parts part k [] h = by (k == part)
  where
    by : (b : Bool) → none ≡ (if b then [] else [])
    by true = refl
    by false = refl
all-in tree parts part k (s ∷ list) h =
    ap (λ (n : ℕ). if n == part then s ∷ of_part tree parts part list else of_part tree parts part list) h.0
    ∙ by (k == part) (all-in tree parts part k list h.1)
  where
    by : (b : Bool) → of_part tree parts part list ≡ (if b then list else []) → (if b then s ∷ of_part tree parts part list else of_part tree parts part list) ≡ (if b then s ∷ list else [])
    by true e = ap (λ (list : List Schedule). s ∷ list) e
    by false e = e

-- fates that lose nothing of the whole, and lead to a tree at a place
abbrev LeadTo : Tree → List Bool → ℕ → Tree → Type 0
LeadTo whole begun place t = (more : List Bool) → places_from 0 whole (begun ++ more) ≡ places_from place t more

lost-in : (whole : Tree) (parts place : ℕ) (a l : Tree) (begun : List Bool) (list : List Schedule) → LeadTo whole begun place (Comes a l) → AllByRecursion (Begins (begun ++ (true ∷ []))) list
    → AllByRecursion (λ (s : Schedule). part_of parts (places_from 0 whole s.fates) ≡ place % parts) list
lost-in whole parts place a l begun [] lead h = tt
lost-in whole parts place a l begun (s ∷ list) lead h = (
  ap (λ (fs : List Bool). part_of parts (places_from 0 whole fs)) (h.0.is ∙ append_assoc begun (true ∷ []) h.0.more) ∙ ap (part_of parts) (lead (true ∷ h.0.more)),
  lost-in whole parts place a l begun list lead h.1,
)

part-losses : (whole : Tree) (parts part place : ℕ) (t : Tree) (most : ℕ) (begun : List Bool) → LeadTo whole begun place t
    → part_losses parts part place t most begun ≡ of_part whole parts part (with_losses t most begun)
part-losses whole parts part place (Ends cost) most begun lead = refl
part-losses whole parts part place (Comes a l) zero begun lead = refl
part-losses whole parts part place (Comes a l) (suc most) begun lead =
    let less : suc most - 1 ≡ most = omega arith in
    ap (λ (n : ℕ). (if place % parts == part then schedules l n (begun ++ (true ∷ [])) else []) ++ part_losses parts part (place + 1) a (suc most) (begun ++ (false ∷ []))) less
    ∙ ap (λ (list : List Schedule). list ++ part_losses parts part (place + 1) a (suc most) (begun ++ (false ∷ [])))
    (sym (all-in whole parts part (place % parts) (schedules l most (begun ++ (true ∷ []))) (lost-in whole parts place a l begun (schedules l most (begun ++ (true ∷ []))) lead (all-begin l most (begun ++ (true ∷ []))))))
    ∙ ap (λ (list : List Schedule). of_part whole parts part (schedules l most (begun ++ (true ∷ []))) ++ list)
    (part-losses whole parts part (place + 1) a (suc most) (begun ++ (false ∷ [])) (λ more. ap (places_from 0 whole) (append_assoc begun (false ∷ []) more) ∙ lead (false ∷ more)))
    ∙ sym (of-append whole parts part (schedules l most (begun ++ (true ∷ []))) (with_losses a (suc most) (begun ++ (false ∷ []))))

pub none-lost-at : (t : Tree) → places_from 0 t [] ≡ []
none-lost-at (Ends cost) = refl
none-lost-at (Comes a l) = refl

-- the first and those with a loss are all of the part
pub part-is : (tree : Tree) (parts part most : ℕ) → first_schedule part tree ++ part_losses parts part 0 tree most [] ≡ of_part tree parts part (schedules tree most [])
part-is tree parts part most =
    ap (λ (list : List Schedule). first_schedule part tree ++ list) (part-losses tree parts part 0 tree most [] (λ more. refl))
    ∙ by (0 == part)
    ∙ sym (ap (λ (places : List ℕ). if part_of parts places == part then record { fates = []; cost = quiet_cost tree } ∷ of_part tree parts part (with_losses tree most []) else of_part tree parts part (with_losses tree most [])) (none-lost-at tree))
  where
    by : (b : Bool) → (if b then record { fates = []; cost = quiet_cost tree } ∷ [] else []) ++ of_part tree parts part (with_losses tree most [])
        ≡ (if b then record { fates = []; cost = quiet_cost tree } ∷ of_part tree parts part (with_losses tree most []) else of_part tree parts part (with_losses tree most []))
    by true = refl
    by false = refl

-- one part is the whole
pub one-part : (tree : Tree) (list : List Schedule) → of_part tree 1 0 list ≡ list
one-part tree [] = refl
one-part tree (s ∷ list) =
    let none : part_of 1 (places_from 0 tree s.fates) ≡ 0 = let h = in-range 1 (omega arith) (places_from 0 tree s.fates) in omega (arith, h) in
    ap (λ (n : ℕ). if n == 0 then s ∷ of_part tree 1 0 list else of_part tree 1 0 list) none
    ∙ ap (λ (list : List Schedule). s ∷ list) (one-part tree list)

pub all-counted : (tree : Tree) (wanted parts part most : ℕ) (begun middle new : Count) → begun ≡ nothing → middle ≡ with_all wanted begun (first_schedule part tree)
    → new ≡ with_all wanted middle (part_losses parts part 0 tree most []) → new ≡ with_all wanted nothing (of_part tree parts part (schedules tree most []))
all-counted tree wanted parts part most begun middle new z f e =
    e ∙ ap (λ (c : Count). with_all wanted c (part_losses parts part 0 tree most [])) (f ∙ ap (λ (c : Count). with_all wanted c (first_schedule part tree)) z)
    ∙ sym (fold-append (with_one wanted) nothing (first_schedule part tree) (part_losses parts part 0 tree most []))
    ∙ ap (with_all wanted nothing) (part-is tree parts part most)

pub whole-worst : (tree : Tree) (wanted parts part most : ℕ) (new : Count) → part ≡ 0 → parts ≡ 1 → new ≡ with_all wanted nothing (of_part tree parts part (schedules tree most [])) → IsWorst tree most new
whole-worst tree wanted parts part most new z o e =
    subst (IsWorst tree most)
    (sym (e ∙ ap (λ (n : ℕ). with_all wanted nothing (of_part tree parts n (schedules tree most []))) z ∙ ap (λ (n : ℕ). with_all wanted nothing (of_part tree n 0 (schedules tree most []))) o
    ∙ ap (with_all wanted nothing) (one-part tree (schedules tree most []))))
    (worst tree most wanted)

pub first-cause : (tree : Tree) (parts part most before : ℕ) (meets : List Bool → Type 0) (fault : LossesFault) → before ≡ 0
    → Cause meets 0 before (first_schedule part tree) fault → Cause meets most 0 (of_part tree parts part (schedules tree most [])) fault
first-cause tree parts part most before meets TooMany z c =
    let e = ap length (part-is tree parts part most) in omega (arith, z, c, e, length-append (first_schedule part tree) (part_losses parts part 0 tree most []))
first-cause tree parts part most before meets Limit z c = record { fates = c.fates; few = omega (arith, c.few); met = c.met }
first-cause tree parts part most before meets OutOfMemory z c = tt

pub rest-cause : (tree : Tree) (wanted parts part most : ℕ) (begun middle : Count) (meets : List Bool → Type 0) (fault : LossesFault) → begun ≡ nothing
    → middle ≡ with_all wanted begun (first_schedule part tree) → Cause meets most middle.schedules (part_losses parts part 0 tree most []) fault
    → Cause meets most 0 (of_part tree parts part (schedules tree most [])) fault
rest-cause tree wanted parts part most begun middle meets TooMany z f c =
    let e = ap length (part-is tree parts part most) in
    let m = ap (λ (c : Count). c.schedules) (f ∙ ap (λ (c : Count). with_all wanted c (first_schedule part tree)) z) in
    omega (arith, c, e, m, counted-all wanted nothing (first_schedule part tree), length-append (first_schedule part tree) (part_losses parts part 0 tree most []))
rest-cause tree wanted parts part most begun middle meets Limit z f c = c
rest-cause tree wanted parts part most begun middle meets OutOfMemory z f c = tt
