-- The first candidate for a prefix, among candidates in order.

use Rattle.std.proofs.Common.{◌≡◌, ◌∙◌, ℕ, zero, suc, ◌+◌, ◌-◌, ◌≤◌, ◌<◌, false, List, Option, Some, None, length, get_or, refl, ap, subst, arith, inl, inr}
use Rattle.std.specs.List.{Contains}
use Rattle.std.specs.Ordering.{nat_cmp, is_lt}
use Rattle.std.specs.List.Sorted.{IsSortedByKey}
use Rattle.std.proofs.lemmas.Bool.{cases_lt}
use Rattle.std.proofs.lemmas.Bool.Decides.{nat_tests}
use Rattle.std.proofs.lemmas.List.{get_or_default}
use Rattle.route_table.specs.declared.candidate.Candidate.{Candidate}
use Rattle.route_table.specs.declared.route.Route.{Route}
use Rattle.route_table.specs.Ranks.{prefix_number}
use Rattle.route_table.specs.Order.{AreInOrder}
use Rattle.route_table.specs.Putting.{IsFirstFor}
use Rattle.route_table.specs.Patches.{ArePrefixesInOrder, IsPatchOf}
use Rattle.route_table.specs.Routes.{IsRoute}
use Rattle.isis_base.specs.declared.prefix.Prefix.{Prefix}

abbrev pub number_of : List Candidate → ℕ → Candidate → ℕ
number_of cs k d = prefix_number (get_or cs k d).prefix

-- prefixes of candidates in order don't fall
pub rises : (cs : List Candidate) → AreInOrder cs → (i j : ℕ) (d : Candidate) → i < j → j < length cs → number_of cs i d ≤ number_of cs j d
rises cs order i j d less inside =
    elim (order.order i j d less inside) [
      | inl below ↦ omega arith
      | inr same ↦ omega (arith, same.0)
    ]

pub first-left : (cs : List Candidate) (n middle : ℕ) (e : Candidate) → AreInOrder cs → middle < length cs → number_of cs middle e < n → (k : ℕ) (d : Candidate) → k < middle + 1 → number_of cs k d < n
first-left cs n middle e order inside low k d less =
    let same : number_of cs middle e ≡ number_of cs middle d = ap (λ (c : Candidate). prefix_number c.prefix) (get_or_default cs middle e d inside) in
    elim (cases_lt k middle) [
      | inl before ↦ let up = rises cs order k middle d before inside in omega arith
      | inr not-before ↦ let here : middle ≡ k = omega arith in subst (λ (m : ℕ). number_of cs m d < n) here (omega arith)
    ]

pub first-right : (cs : List Candidate) (n middle : ℕ) (e : Candidate) → AreInOrder cs → middle < length cs → n ≤ number_of cs middle e → (k : ℕ) (d : Candidate) → middle ≤ k → k < length cs → n ≤ number_of cs k d
first-right cs n middle e order inside high k d from l =
    let same : number_of cs middle e ≡ number_of cs middle d = ap (λ (c : Candidate). prefix_number c.prefix) (get_or_default cs middle e d inside) in
    elim (cases_lt middle k) [
      | inl past ↦ let up = rises cs order middle k d past l in omega arith
      | inr not-past ↦ let here : middle ≡ k = omega arith in subst (λ (m : ℕ). n ≤ number_of cs m d) here (omega arith)
    ]

-- where the first one isn't for the prefix, none is
pub none-for : (cs : List Candidate) (n place : ℕ) → AreInOrder cs → IsFirstFor cs n place → (place < length cs → (d : Candidate) → number_of cs place d ≡ n → ⊥) → (c : Candidate) → Contains cs c → prefix_number c.prefix ≡ n → ⊥
none-for cs n place order first other c h same =
    let l = h.1 in
    let at : number_of cs h.0 c ≡ prefix_number c.prefix = ap (λ (x : Candidate). prefix_number x.prefix) h.2 in
    elim (cases_lt h.0 place) [
      | inl before ↦ let low = first.below h.0 c before in absurd (omega arith)
      | inr not-before ↦
          let up = first.above place c (omega arith) (omega arith) in
          elim (cases_lt place h.0) [
            | inl past ↦ let rise = rises cs order place h.0 c past l in other (omega arith) c (omega arith)
            | inr not-past ↦ let here : h.0 ≡ place = omega arith in other (omega arith) c (subst (λ (m : ℕ). number_of cs m c ≡ n) here (at ∙ same))
          ]
    ]

-- all before the first one are of lesser prefixes
pub cut-at-first : (cs : List Candidate) (n place : ℕ) → IsFirstFor cs n place → ((d : Candidate) → number_of cs place d ≡ n) → (i : ℕ) (d : Candidate) → i < place → number_of cs i d < number_of cs place d
cut-at-first cs n place first here i d before = let low = first.below i d before in let same = here d in omega arith

-- ---- prefixes that were put in order

falls : (x y : ℕ) → is_lt (nat_cmp y x) ≡ false → y < x → ⊥
falls x y h less = grind (arith, nat_tests)

no-more : (x y : ℕ) → is_lt (nat_cmp y x) ≡ false → x ≤ y
no-more x y h =
    elim (cases_lt y x) [
      | inl less ↦ absurd (falls x y h less)
      | inr not-less ↦ not-less
    ]

far-on : (ps : List Prefix) (d : Prefix) → ((k : ℕ) → k + 1 < length ps → prefix_number (get_or ps k d) ≤ prefix_number (get_or ps (k + 1) d)) → (i n : ℕ) → i + n + 1 < length ps → prefix_number (get_or ps i d) ≤ prefix_number (get_or ps (i + n + 1) d)
far-on ps d step i zero l =
    let e : i + 1 ≡ i + zero + 1 = omega arith in
    subst (λ (m : ℕ). prefix_number (get_or ps i d) ≤ prefix_number (get_or ps m d)) e (step i (omega arith))
far-on ps d step i (suc n) l =
    let last : prefix_number (get_or ps (i + n + 1) d) ≤ prefix_number (get_or ps (i + n + 1 + 1) d) = step (i + n + 1) (omega arith) in
    let e : i + n + 1 + 1 ≡ i + suc n + 1 = omega arith in
    let before = far-on ps d step i n (omega arith) in
    subst (λ (m : ℕ). prefix_number (get_or ps i d) ≤ prefix_number (get_or ps m d)) e (omega arith)

pub prefixes-are : (ps : List Prefix) → IsSortedByKey prefix_number nat_cmp ps → ArePrefixesInOrder ps
prefixes-are ps sorted =
    record {
      order = λ i j d less l.
          let e : i + (j - (i + 1)) + 1 ≡ j = omega arith in
          subst (λ (m : ℕ). prefix_number (get_or ps i d) ≤ prefix_number (get_or ps m d)) e
          (far-on ps d (λ k in'. no-more (prefix_number (get_or ps k d)) (prefix_number (get_or ps (k + 1) d)) (sorted k d (omega arith) in')) i (j - (i + 1)) (omega arith));
    }

-- ---- the patch for a prefix

none-some : {P : Type 0} (r : Route) → None ≡ Some r → P
none-some r e = absurd (let f : None ≡ Some r = e in cc)

some-none : {P : Type 0} (r : Route) → Some r ≡ None → P
some-none r e = absurd (let f : Some r ≡ None = e in cc)

abbrev route-of : Route → Option Route → Route
route-of other None = other
route-of other (Some r) = r

pub patch-without : (HopTo : Candidate → ℕ → Type 0) (cs : List Candidate) (of : Prefix) (place : ℕ) → AreInOrder cs → IsFirstFor cs (prefix_number of) place → (place < length cs → (d : Candidate) → number_of cs place d ≡ prefix_number of → ⊥)
    → IsPatchOf HopTo cs of (record { prefix = of; route = None })
patch-without HopTo cs of place order first other =
    record {
      prefix = refl;
      some = λ r e. none-some r e;
      none = λ e c h same. none-for cs (prefix_number of) place order first other c h same;
    }

pub patch-with : (HopTo : Candidate → ℕ → Type 0) (cs : List Candidate) (of : Prefix) (place : ℕ) (route : Route) → IsRoute HopTo cs route → ((d : Candidate) → route.prefix ≡ (get_or cs place d).prefix) → ((d : Candidate) → number_of cs place d ≡ prefix_number of)
    → IsPatchOf HopTo cs of (record { prefix = of; route = Some route })
patch-with HopTo cs of place route is own here =
    record {
      prefix = refl;
      some = λ r e.
          let same : route ≡ r = ap (route-of route) e in (
            subst (λ (x : Route). IsRoute HopTo cs x) same is,
            subst (λ (x : Route). prefix_number x.prefix ≡ prefix_number of) same (ap prefix_number (own is.some.0) ∙ here is.some.0),
          );
      none = λ e c h same. some-none route e;
    }
