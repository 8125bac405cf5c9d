-- Turns of a run whose deliveries arrive.
use Rattle.std.proofs.Common.{◌≡◌, ℕ, zero, suc, ◌+◌, ◌-◌, ◌%◌, ◌==◌, if◌then◌else◌, ◌<◌, ◌≤◌, length, take, Bool, true, false, List, [], ◌∷◌, ◌++◌, Result, Err, refl, sym, ap, ◌∙◌, subst, arith}
use Rattle.std.proofs.lemmas.List.{append_assoc, append-nil, length-append, take-append-le}
use Rattle.std.proofs.Math.Seq.{take-append_seam, take-length}
use Rattle.std.proofs.lemmas.List.Sums.{fold-append}
use Rattle.losses.specs.declared.player.Stop.{Stop}
use Rattle.losses.specs.declared.player.Stop.TheVariants as stop
use Rattle.losses.specs.declared.player.Played.{Played}
use Rattle.losses.specs.declared.fault.LossesFault.{LossesFault}
use Rattle.losses.specs.declared.fault.LossesFault.TheVariants.{TooMany, Limit, OutOfMemory}
use Rattle.losses.specs.Trees.{Tree, Ends, Comes, behind, quiet_cost, quiet_length, losses_in}
use Rattle.losses.specs.Schedules.{Schedule, schedules, with_losses}
use Rattle.losses.specs.Counts.{Count, with_one, with_all}
use Rattle.losses.specs.PartsLeft.{first_schedule, lost_here, part_losses}
use Rattle.losses.specs.Causes.{Cause, IsFull, fault_of}

pub behind-nil : (t : Tree) → behind t [] ≡ t
behind-nil (Ends cost) = refl
behind-nil (Comes a l) = refl

pub behind-append : (t : Tree) (xs ys : List Bool) → behind t (xs ++ ys) ≡ behind (behind t xs) ys
behind-append (Ends cost) xs ys = refl
behind-append (Comes a l) [] ys = refl
behind-append (Comes a l) (true ∷ xs) ys = behind-append l xs ys
behind-append (Comes a l) (false ∷ xs) ys = behind-append a xs ys

pub none-left : (t : Tree) (most : ℕ) (fates : List Bool) → quiet_length t ≡ 0 → with_losses t most fates ≡ []
none-left (Ends cost) most fates e = refl
none-left (Comes a l) most fates e = absurd (omega (arith, e))

pub none-lost : (t : Tree) (fates : List Bool) → with_losses t 0 fates ≡ []
none-lost (Ends cost) fates = refl
none-lost (Comes a l) fates = refl

pub one-less : (t : Tree) → 0 < quiet_length t → quiet_length (behind t (false ∷ [])) + 1 ≡ quiet_length t
one-less (Ends cost) h = absurd (omega (arith, h))
one-less (Comes a l) h = ap (λ (t : Tree). quiet_length t + 1) (behind-nil a)

-- ---- which schedules were counted, and which are left

-- these were counted, and these are left of all
pub record Going (wanted : ℕ) (old now : Count) (left whole : List Schedule) : Type 0 where
  pub counted : List Schedule
  pub now_is : now ≡ with_all wanted old counted
  pub whole_is : counted ++ left ≡ whole

pub going-none : (wanted : ℕ) (old : Count) (whole : List Schedule) → Going wanted old old whole whole
going-none wanted old whole = record { counted = []; now_is = refl; whole_is = refl }

-- some more are counted
pub going-on : (wanted : ℕ) (old now new : Count) (left some more whole : List Schedule) → Going wanted old now left whole → left ≡ some ++ more
    → new ≡ with_all wanted now some → Going wanted old new more whole
going-on wanted old now new left some more whole g e t = record {
  counted = g.counted ++ some;
  now_is = t ∙ ap (λ (c : Count). with_all wanted c some) g.now_is ∙ sym (fold-append (with_one wanted) old g.counted some);
  whole_is = append_assoc g.counted some more ∙ sym (ap (λ (xs : List Schedule). g.counted ++ xs) e) ∙ g.whole_is;
}

-- none is left
pub going-all : (wanted : ℕ) (old now : Count) (left whole : List Schedule) → Going wanted old now left whole → left ≡ [] → now ≡ with_all wanted old whole
going-all wanted old now left whole g e =
    g.now_is ∙ ap (with_all wanted old) (sym (append-nil g.counted) ∙ sym (ap (λ (xs : List Schedule). g.counted ++ xs) e) ∙ g.whole_is)

pub counted-all : (wanted : ℕ) (old : Count) (list : List Schedule) → (with_all wanted old list).schedules ≡ old.schedules + length list
counted-all wanted old [] = omega arith
counted-all wanted old (s ∷ list) = let e = counted-all wanted (with_one wanted old s) list in omega (arith, e)

-- a cause that comes where some more are counted is one of all
pub going-cause : (wanted : ℕ) (old now : Count) (left some more whole : List Schedule) (meets : List Bool → Type 0) (few most : ℕ) (fault : LossesFault)
    → Going wanted old now left whole → left ≡ some ++ more → few ≤ most → Cause meets few now.schedules some fault → Cause meets most old.schedules whole fault
going-cause wanted old now left some more whole meets few most TooMany g e h c =
    let sizes = ap length (ap (λ (xs : List Schedule). g.counted ++ xs) (sym e) ∙ g.whole_is) in
    omega (arith, c, sizes, length-append g.counted (some ++ more), length-append some more, ap (λ (c : Count). c.schedules) g.now_is, counted-all wanted old g.counted)
going-cause wanted old now left some more whole meets few most Limit g e h c = record { fates = c.fates; few = omega (arith, h, c.few); met = c.met }
going-cause wanted old now left some more whole meets few most OutOfMemory g e h c = tt

-- one that is full
pub full-cause : (meets : List Bool → Type 0) (most before : ℕ) (s : Schedule) (list : List Schedule) (fault : LossesFault) → IsFull before fault → Cause meets most before (s ∷ list) fault
full-cause meets most before s list TooMany h = omega (arith, h)
full-cause meets most before s list Limit h = absurd h
full-cause meets most before s list OutOfMemory h = tt

pub memory-cause : (meets : List Bool → Type 0) (most before : ℕ) (list : List Schedule) (fault : LossesFault) → fault ≡ OutOfMemory → Cause meets most before list fault
memory-cause meets most before list fault e = subst (Cause meets most before list) (sym e) tt

-- one of a run with these fates
pub met-cause : (meets : List Bool → Type 0) (most before : ℕ) (list : List Schedule) (fates played : List Bool) (r : Result Played Stop) (s : Stop) (fault : LossesFault)
    → r ≡ Err s → fault ≡ fault_of s → played ≡ fates → losses_in fates ≤ most → (r ≡ Err stop.Limit → meets played) → Cause meets most before list fault
met-cause meets most before list fates played r stop.Limit fault is e p h m =
    subst (Cause meets most before list) (sym e) (record { fates = fates; few = h; met = subst meets p (m is) })
met-cause meets most before list fates played r stop.OutOfMemory fault is e p h m = subst (Cause meets most before list) (sym e) tt

-- ---- turns

pub losses-append : (xs ys : List Bool) → losses_in (xs ++ ys) ≡ losses_in xs + losses_in ys
losses-append [] ys = omega arith
losses-append (true ∷ xs) ys = omega (arith, losses-append xs ys)
losses-append (false ∷ xs) ys = losses-append xs ys

-- the schedules in which the next delivery is lost, and then those in which it arrives
pub next-two : (t : Tree) (most : ℕ) (fates : List Bool) → 0 < quiet_length t → 0 < most
    → with_losses t most fates ≡ schedules (behind t (true ∷ [])) (most - 1) (fates ++ (true ∷ [])) ++ with_losses (behind t (false ∷ [])) most (fates ++ (false ∷ []))
next-two (Ends cost) most fates h k = absurd (omega (arith, h))
next-two (Comes a l) zero fates h k = absurd (omega (arith, k))
next-two (Comes a l) (suc most) fates h k =
    let less : suc most - 1 ≡ most = omega arith in
    sym (ap (λ (n : ℕ). schedules (behind l []) n (fates ++ (true ∷ [])) ++ with_losses (behind a []) (suc most) (fates ++ (false ∷ []))) less
    ∙ ap (λ (t : Tree). schedules t most (fates ++ (true ∷ [])) ++ with_losses (behind a []) (suc most) (fates ++ (false ∷ []))) (behind-nil l)
    ∙ ap (λ (t : Tree). schedules l most (fates ++ (true ∷ [])) ++ with_losses t (suc most) (fates ++ (false ∷ []))) (behind-nil a))

-- the same of a part
pub next-of-part : (parts part place : ℕ) (t : Tree) (most : ℕ) (fates : List Bool) → 0 < quiet_length t → 0 < most
    → part_losses parts part place t most fates ≡ lost_here parts part place (behind t (true ∷ [])) most fates ++ part_losses parts part (place + 1) (behind t (false ∷ [])) most (fates ++ (false ∷ []))
next-of-part parts part place (Ends cost) most fates h k = absurd (omega (arith, h))
next-of-part parts part place (Comes a l) zero fates h k = absurd (omega (arith, k))
next-of-part parts part place (Comes a l) (suc most) fates h k =
    sym (ap (λ (t : Tree). lost_here parts part place t (suc most) fates ++ part_losses parts part (place + 1) (behind a []) (suc most) (fates ++ (false ∷ []))) (behind-nil l)
    ∙ ap (λ (t : Tree). lost_here parts part place l (suc most) fates ++ part_losses parts part (place + 1) t (suc most) (fates ++ (false ∷ []))) (behind-nil a))

pub none-of-part : (parts part place : ℕ) (t : Tree) (most : ℕ) (fates : List Bool) → quiet_length t ≡ 0 → part_losses parts part place t most fates ≡ []
none-of-part parts part place (Ends cost) most fates e = refl
none-of-part parts part place (Comes a l) most fates e = absurd (omega (arith, e))

pub none-lost-of-part : (parts part place : ℕ) (t : Tree) (fates : List Bool) → part_losses parts part place t 0 fates ≡ []
none-lost-of-part parts part place (Ends cost) fates = refl
none-lost-of-part parts part place (Comes a l) fates = refl

one-shorter : (xs followed : List Bool) (x : Bool) → followed ≡ xs ++ (x ∷ []) → take (length followed - 1) followed ≡ xs
one-shorter xs followed x e =
    let size : length followed - 1 ≡ length xs = omega (arith, ap length e, length-append xs (x ∷ [])) in
    ap (λ (n : ℕ). take n followed) size ∙ ap (take (length xs)) e ∙ take-append_seam xs (x ∷ [])

-- fates after a turn in which a delivery was lost and then arrived
pub turned : (items put followed popped now : List Bool) (size : ℕ) → put ≡ items ++ (true ∷ []) → followed ≡ put → popped ≡ take (size - 1) followed → size ≡ length followed
    → now ≡ popped ++ (false ∷ []) → now ≡ items ++ (false ∷ [])
turned items put followed popped now size p f o k n =
    n ∙ ap (λ (xs : List Bool). xs ++ (false ∷ [])) (o ∙ ap (λ (n : ℕ). take (n - 1) followed) k ∙ one-shorter items followed true (f ∙ p))

pub arrived : (items lost now : List Bool) → now ≡ lost ++ (false ∷ []) → lost ≡ items → now ≡ items ++ (false ∷ [])
arrived items lost now n e = n ∙ ap (λ (xs : List Bool). xs ++ (false ∷ [])) e

pub begun-told : (start : ℕ) (items : List Bool) → start ≡ length items → (take start items ≡ items) × (start ≤ length items)
begun-told start items e = (ap (λ (n : ℕ). take n items) e ∙ take-length items, omega (arith, e))

pub kept-first : (start : ℕ) (begun items now : List Bool) → now ≡ items ++ (false ∷ []) → take start items ≡ begun → start ≤ length items → (take start now ≡ begun) × (start ≤ length now)
kept-first start begun items now e t h = (ap (take start) e ∙ take-append-le start items (false ∷ []) h ∙ t, omega (arith, h, ap length e, length-append items (false ∷ [])))

-- one delivery fewer is to come
pub fewer : (whole : Tree) (items now : List Bool) (place further : ℕ) → now ≡ items ++ (false ∷ []) → quiet_length (behind whole items) + place ≡ further → place < further
    → quiet_length (behind whole now) + (place + 1) ≡ further
fewer whole items now place further e left less =
    let more : 0 < quiet_length (behind whole items) = omega (arith, left, less) in
    let goes : behind whole now ≡ behind (behind whole items) (false ∷ []) = ap (behind whole) e ∙ behind-append whole items (false ∷ []) in
    omega (arith, left, one-less (behind whole items) more, ap quiet_length goes)

pub same-losses : (items now : List Bool) → now ≡ items ++ (false ∷ []) → losses_in now ≡ losses_in items
same-losses items now e = let a = ap losses_in e in omega (arith, a, losses-append items (false ∷ []))

-- which schedules are left where a delivery was lost, and those after it
pub split-at : (whole : Tree) (items put now : List Bool) (most : ℕ) → put ≡ items ++ (true ∷ []) → now ≡ items ++ (false ∷ []) → 0 < quiet_length (behind whole items) → 0 < most
    → with_losses (behind whole items) most items ≡ schedules (behind whole put) (most - 1) put ++ with_losses (behind whole now) most now
split-at whole items put now most p n h k =
    next-two (behind whole items) most items h k
    ∙ sym (ap (λ (fs : List Bool). schedules (behind whole fs) (most - 1) fs ++ with_losses (behind whole now) most now) p
    ∙ ap (λ (fs : List Bool). schedules (behind whole (items ++ (true ∷ []))) (most - 1) (items ++ (true ∷ [])) ++ with_losses (behind whole fs) most fs) n
    ∙ ap (λ (t : Tree). schedules t (most - 1) (items ++ (true ∷ [])) ++ with_losses (behind whole (items ++ (false ∷ []))) most (items ++ (false ∷ []))) (behind-append whole items (true ∷ []))
    ∙ ap (λ (t : Tree). schedules (behind (behind whole items) (true ∷ [])) (most - 1) (items ++ (true ∷ [])) ++ with_losses t most (items ++ (false ∷ []))) (behind-append whole items (false ∷ [])))

pub split-part : (parts part place : ℕ) (whole : Tree) (items now : List Bool) (most : ℕ) → now ≡ items ++ (false ∷ []) → 0 < quiet_length (behind whole items) → 0 < most
    → part_losses parts part place (behind whole items) most items ≡ lost_here parts part place (behind whole (items ++ (true ∷ []))) most items ++ part_losses parts part (place + 1) (behind whole now) most now
split-part parts part place whole items now most n h k =
    next-of-part parts part place (behind whole items) most items h k
    ∙ sym (ap (λ (fs : List Bool). lost_here parts part place (behind whole (items ++ (true ∷ []))) most items ++ part_losses parts part (place + 1) (behind whole fs) most fs) n
    ∙ ap (λ (t : Tree). lost_here parts part place t most items ++ part_losses parts part (place + 1) (behind whole (items ++ (false ∷ []))) most (items ++ (false ∷ []))) (behind-append whole items (true ∷ []))
    ∙ ap (λ (t : Tree). lost_here parts part place (behind (behind whole items) (true ∷ [])) most items ++ part_losses parts part (place + 1) t most (items ++ (false ∷ []))) (behind-append whole items (false ∷ [])))

-- ---- the schedules of a part

-- a schedule with another before it that has more of its fates
pub follows-on : (whole : Tree) (wanted most : ℕ) (begun played told : List Bool) (cost : ℕ) (old new : Count) → played ≡ begun → told ≡ begun
    → cost ≡ quiet_cost (behind whole played) → new ≡ with_one wanted old (record { fates = told; cost = cost })
    → Going wanted old new (with_losses (behind whole begun) most begun) (schedules (behind whole begun) most begun)
follows-on whole wanted most begun played told cost old new p t k e = record {
  counted = record { fates = begun; cost = quiet_cost (behind whole begun) } ∷ [];
  now_is = e ∙ ap (λ (fates : List Bool). with_one wanted old (record { fates = fates; cost = cost })) t
      ∙ ap (λ (cost : ℕ). with_one wanted old (record { fates = begun; cost = cost })) (k ∙ ap (λ (fates : List Bool). quiet_cost (behind whole fates)) p);
  whole_is = refl;
}

pub none-more : (t : Tree) (most : ℕ) (fates : List Bool) → most ≡ 0 → with_losses t most fates ≡ []
none-more t most fates z = ap (λ (n : ℕ). with_losses t n fates) z ∙ none-lost t fates

pub none-more-of-part : (parts part : ℕ) (t : Tree) (most : ℕ) → most ≡ 0 → part_losses parts part 0 t most [] ≡ []
none-more-of-part parts part t most z = ap (λ (n : ℕ). part_losses parts part 0 t n []) z ∙ none-lost-of-part parts part 0 t []

-- a delivery of the part is lost
pub lost-cause : (meets : List Bool → Type 0) (parts part place : ℕ) (whole : Tree) (most before : ℕ) (begun put : List Bool) (fault : LossesFault)
    → (place % parts == part) ≡ true → put ≡ begun ++ (true ∷ []) → 0 < most
    → Cause meets (losses_in put + (most - 1)) before (schedules (behind whole put) (most - 1) put) fault
    → Cause meets (losses_in begun + most) before (lost_here parts part place (behind whole (begun ++ (true ∷ []))) most begun) fault
lost-cause meets parts part place whole most before begun put fault b p k c =
    let few : losses_in put + (most - 1) ≡ losses_in begun + most = let e = ap losses_in p in omega (arith, e, losses_in-one begun, k) in
    subst (λ (n : ℕ). Cause meets n before (lost_here parts part place (behind whole (begun ++ (true ∷ []))) most begun) fault) few
    (subst (λ (list : List Schedule). Cause meets (losses_in put + (most - 1)) before list fault)
    (ap (λ (fs : List Bool). schedules (behind whole fs) (most - 1) fs) p
    ∙ sym (ap (λ (b : Bool). if b then schedules (behind whole (begun ++ (true ∷ []))) (most - 1) (begun ++ (true ∷ [])) else []) b)) c)
  where
    losses_in-one : (xs : List Bool) → losses_in (xs ++ (true ∷ [])) ≡ losses_in xs + 1
    losses_in-one xs = let e = losses-append xs (true ∷ []) in omega (arith, e)

-- the schedule without a loss
pub first-counted : (tree : Tree) (wanted part cost : ℕ) (old new : Count) → part ≡ 0 → cost ≡ quiet_cost (behind tree [])
    → new ≡ with_one wanted old (record { fates = []; cost = cost }) → new ≡ with_all wanted old (first_schedule part tree)
first-counted tree wanted part cost old new z k e =
    e ∙ ap (λ (cost : ℕ). with_one wanted old (record { fates = []; cost = cost })) (k ∙ ap quiet_cost (behind-nil tree))
    ∙ sym (ap (λ (n : ℕ). with_all wanted old (first_schedule n tree)) z)

-- before anything is lost
pub part-begins : (tree : Tree) (wanted parts part most : ℕ) (items : List Bool) (old : Count) → items ≡ []
    → Going wanted old old (part_losses parts part 0 (behind tree items) most items) (part_losses parts part 0 tree most [])
part-begins tree wanted parts part most items old e =
    subst (λ (list : List Schedule). Going wanted old old list (part_losses parts part 0 tree most []))
    (sym (ap (λ (fs : List Bool). part_losses parts part 0 (behind tree fs) most fs) e ∙ ap (λ (t : Tree). part_losses parts part 0 t most []) (behind-nil tree)))
    (going-none wanted old (part_losses parts part 0 tree most []))

pub put-loses : (items put : List Bool) → put ≡ items ++ (true ∷ []) → losses_in put ≡ losses_in items + 1
put-loses items put e = let f = ap losses_in e in omega (arith, f, losses-append items (true ∷ []))
