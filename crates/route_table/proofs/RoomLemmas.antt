-- How many routes come by patches, and how much room tables have.

use Rattle.std.proofs.Common.{◌≡◌, ◌∙◌, ℕ, suc, ◌+◌, ◌*◌, ◌/◌, ◌||◌, ◌==◌, ◌≤◌, ◌<◌, Bool, true, false, cond, List, [], ◌∷◌, ◌++◌, Option, Some, None, length, get_or, length-append, refl, sym, ap, subst, arith, inl, inr}
use Rattle.std.specs.List.{Contains}
use Rattle.std.specs.Option.{option_map}
use Rattle.std.proofs.lemmas.Bool.{cases_lt, cases_Bool, eqb-true, eq-eqb, le-leb, lt-leb}
use Rattle.std.proofs.lemmas.List.{get_or-append-add}
use Rattle.std.proofs.lemmas.List.Elements.{Contains-get_or}
use Rattle.std.proofs.lemmas.List.Folds.{list_any_at}
use Rattle.std.proofs.lemmas.List.Sums.{sum_by-cons}
use Rattle.route_table.specs.declared.route.Route.{Route}
use Rattle.route_table.specs.declared.patch.Patch.{Patch}
use Rattle.route_table.specs.Ranks.{prefix_number}
use Rattle.route_table.specs.Routes.{AreRising}
use Rattle.route_table.specs.Patches.{AreInTurn, Fits, HaveRoom, coming, is_routed, more_by, room_of}
use Rattle.route_table.specs.Putting.{IsFree, IsHeld, IsPutIn}

abbrev number : Route → ℕ
number r = prefix_number r.prefix

-- ---- whether a prefix has a route

pub routed : (routes : List Route) (r : Route) (n : ℕ) → Contains routes r → number r ≡ n → is_routed routes n ≡ true
routed routes r n there e =
    list_any_at (λ (x : Route). number x == n) routes there.0 r there.1 (subst (λ (x : Route). (number x == n) ≡ true) (sym there.2) (eq-eqb (number r) n e))

pub routed-held : (routes : List Route) (n place : ℕ) (d : Route) → IsHeld routes n place → is_routed routes n ≡ true
routed-held routes n place d held = routed routes (get_or routes place d) n (Contains-get_or routes place d held.0) (held.1 d)

pub routed-free : (routes : List Route) (n : ℕ) → IsFree routes n → is_routed routes n ≡ false
routed-free [] n free = refl
routed-free (r ∷ rs) n free =
    elim (cases_Bool (number r == n)) [
      | inl here ↦ absurd (free 0 r (omega arith) (eqb-true (number r) n here))
      | inr not-here ↦ rw not-here (routed-free rs n (λ k d l. free (suc k) d (omega arith)))
    ]

abbrev Found : List Route → ℕ → Type 0
Found routes n = (r : Route) × Contains routes r × (number r ≡ n)

found_more : (r : Route) (rs : List Route) (n : ℕ) → Found rs n → Found (r ∷ rs) n
found_more r rs n f = let l = (f.1).1 in (f.0, (suc (f.1).0, omega arith, (f.1).2), f.2)

found_step : (r : Route) (rs : List Route) (n : ℕ) → (is_routed rs n ≡ true → Found rs n) → (t : Bool) → (number r == n) ≡ t → (t || is_routed rs n) ≡ true → Found (r ∷ rs) n
found_step r rs n rest true is any = (r, (0, omega arith, refl), eqb-true (number r) n is)
found_step r rs n rest false is any = found_more r rs n (rest any)

found : (routes : List Route) (n : ℕ) → is_routed routes n ≡ true → Found routes n
found [] n any = absurd (let e : false ≡ true = any in cc)
found (r ∷ rs) n any = found_step r rs n (found rs n) (number r == n) refl any

same-Bool : (a b : Bool) → (a ≡ true → b ≡ true) → (b ≡ true → a ≡ true) → a ≡ b
same-Bool true b there back = sym (there refl)
same-Bool false true there back = back refl
same-Bool false false there back = refl

-- a prefix that nothing is put in for has a route where it had one
pub routed-put : (old new : List Route) (n m : ℕ) (o : Option Route) → IsPutIn old n o new → ((r : Route) → o ≡ Some r → number r ≡ n) → (m ≡ n → ⊥) → is_routed old m ≡ is_routed new m
routed-put old new n m o put own apart =
    same-Bool (is_routed old m) (is_routed new m)
    (λ has. let f = found old m has in routed new f.0 m (put.kept f.0 f.1 (λ e. apart (sym f.2 ∙ e))) f.2)
    (λ has.
    let f = found new m has in
    elim (put.each f.0 f.1) [
      | inl e ↦ absurd (apart (sym f.2 ∙ own f.0 e))
      | inr both ↦ routed old f.0 m both.0 f.2
    ])

-- ---- how many come

pub more-held : (routes : List Route) (n place : ℕ) (r : Route) → IsHeld routes n place → more_by routes n (Some r) ≡ 0
more-held routes n place r held = ap (λ (b : Bool). cond b 0 1) (routed-held routes n place r held)

pub more-free : (routes : List Route) (n : ℕ) (r : Route) → IsFree routes n → more_by routes n (Some r) ≡ 1
more-free routes n r free = ap (λ (b : Bool). cond b 0 1) (routed-free routes n free)

more-same : (old new : List Route) (m : ℕ) (o : Option Route) → is_routed old m ≡ is_routed new m → more_by old m o ≡ more_by new m o
more-same old new m None e = refl
more-same old new m (Some r) e = ap (λ (b : Bool). cond b 0 1) e

pub coming-cons : (routes : List Route) (p : Patch) (ps : List Patch) → coming routes (p ∷ ps) ≡ more_by routes (prefix_number p.prefix) p.route + coming routes ps
coming-cons routes p ps = sum_by-cons (λ (x : Patch). more_by routes (prefix_number x.prefix) x.route) p ps

abbrev Apart : List Patch → ℕ → Type 0
Apart patches n = (k : ℕ) (d : Patch) → k < length patches → prefix_number (get_or patches k d).prefix ≡ n → ⊥

pub coming-put : (old new : List Route) (n : ℕ) (o : Option Route) (rest : List Patch) → IsPutIn old n o new → ((r : Route) → o ≡ Some r → number r ≡ n) → Apart rest n → coming old rest ≡ coming new rest
coming-put old new n o [] put own apart = refl
coming-put old new n o (p ∷ ps) put own apart =
    let m = prefix_number p.prefix in
    let here : more_by old m p.route ≡ more_by new m p.route = more-same old new m p.route (routed-put old new n m o put own (λ e. apart 0 p (omega arith) e)) in
    let more : coming old ps ≡ coming new ps = coming-put old new n o ps put own (λ k d l. apart (suc k) d (omega arith)) in
    coming-cons old p ps ∙ ap (λ (k : ℕ). k + coming old ps) here ∙ ap (λ (k : ℕ). more_by new m p.route + k) more ∙ sym (coming-cons new p ps)

-- patches behind one are for other prefixes
pub apart-behind : (done rest : List Patch) (p : Patch) → AreInTurn (done ++ p ∷ rest) → Apart rest (prefix_number p.prefix)
apart-behind done rest p turns k d l same =
    let long = length-append done (p ∷ rest) in
    let low = turns.below (length done + 0) (length done + suc k) d (omega arith) (omega arith) in
    let here : prefix_number (get_or (done ++ p ∷ rest) (length done + 0) d).prefix ≡ prefix_number p.prefix = ap (λ (q : Patch). prefix_number q.prefix) (get_or-append-add done (p ∷ rest) 0 d) in
    let there : prefix_number (get_or (done ++ p ∷ rest) (length done + suc k) d).prefix ≡ prefix_number (get_or rest k d).prefix = ap (λ (q : Patch). prefix_number q.prefix) (get_or-append-add done (p ∷ rest) (suc k) d) in
    absurd (omega arith)

-- ---- room in steps

pub room-small : (n : ℕ) → n ≤ 4096 → (n + 63) / 64 * 64 ≡ room_of n
room-small n le = sym (ap (λ (b : Bool). cond b ((n + 63) / 64 * 64) ((n + 1023) / 1024 * 1024)) (le-leb n 4096 le))

pub room-large : (n : ℕ) → 4096 < n → (n + 1023) / 1024 * 1024 ≡ room_of n
room-large n less = sym (ap (λ (b : Bool). cond b ((n + 63) / 64 * 64) ((n + 1023) / 1024 * 1024)) (lt-leb n 4096 less))

pub room-enough : (n : ℕ) → n ≤ room_of n
room-enough n =
    elim (cases_lt 4096 n) [
      | inl large ↦ let is = room-large n large in omega arith
      | inr small ↦ let is = room-small n small in omega arith
    ]

-- what has room in a table of so many has as much as that
pub room-within : (n m : ℕ) → n ≤ room_of m → room_of n ≤ room_of m
room-within n m le =
    elim (cases_lt 4096 m) [
      | inl large ↦
          let of_m = room-large m large in
          elim (cases_lt 4096 n) [
            | inl n-large ↦ let of_n = room-large n n-large in omega arith
            | inr n-small ↦ let of_n = room-small n n-small in omega arith
          ]
      | inr small ↦
          let of_m = room-small m small in
          elim (cases_lt 4096 n) [
            | inl n-large ↦ absurd (omega arith)
            | inr n-small ↦ let of_n = room-small n n-small in omega arith
          ]
    ]

pub room-more : (n m : ℕ) → n ≤ m → room_of n ≤ room_of m
room-more n m le = let up = room-enough m in room-within n m (omega arith)

-- ---- what holds of a table behind patches

pub fits-none : {X : Type 0} (routes : List Route) (list : List Patch) (f : X → ℕ) (o : Option X) → Fits routes (record { list = list; room = option_map f o }) → o ≡ None → length routes + coming routes list ≤ room_of (length routes)
fits-none routes list f None fits is = fits
fits-none routes list f (Some x) fits is = absurd (let e : Some x ≡ None = is in cc)

pub still-room : (old new : List Route) (many room more : ℕ) → HaveRoom old room → length old + many ≤ room_of (length old) → length new ≤ length old + many → room ≤ more → AreRising new → HaveRoom new more
still-room old new many room more have fits few wider rising =
    let enough = have.enough in
    let within = room-within (length new) (length old) (omega arith) in
    record { rising = rising; enough = omega arith }

pub other-room : (old new : List Route) (many room : ℕ) → room_of (length old + many) ≤ room → length new ≤ length old + many → AreRising new → HaveRoom new room
other-room old new many room fits few rising =
    let within = room-more (length new) (length old + many) few in
    record { rising = rising; enough = omega arith }

pub copied-room : (old new : List Route) (room more : ℕ) → new ≡ old → HaveRoom old room → room_of (length old) ≤ more → HaveRoom new more
copied-room old new room more same have enough = record {
  rising = subst AreRising (sym same) have.rising;
  enough = subst (λ (rs : List Route). room_of (length rs) ≤ more) (sym same) enough;
}
