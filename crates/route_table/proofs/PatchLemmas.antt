-- Routes with patches are the routes from scratch.

use Rattle.std.proofs.Common.{◌≡◌, ◌∙◌, ℕ, suc, ◌+◌, ◌-◌, ◌==◌, ◌≤◌, ◌<◌, ◌↔◌, Bool, true, false, ◌||◌, List, [], ◌∷◌, ◌++◌, Option, Some, None, length, get_or, length-append, refl, sym, ap, subst, arith, inl, inr}
use Rattle.std.specs.List.{Contains}
use Rattle.std.specs.Prelude.{IfSome}
use Rattle.std.proofs.lemmas.Bool.{cases_lt, cases_Bool, eqb-true, eq-eqb}
use Rattle.std.proofs.lemmas.List.{get_or_default, get_or_append_left, get_or-append-add, get_or_push, length_push}
use Rattle.std.proofs.lemmas.List.Elements.{Contains-get_or, Contains-append_left, Contains-push, Contains-push_cases}
use Rattle.std.proofs.lemmas.List.Folds.{list_any_at}
use Rattle.isis_base.specs.declared.prefix.Prefix.{Prefix}
use Rattle.spf_tree.specs.Nodes.{node_number}
use Rattle.route_table.specs.declared.candidate.Candidate.{Candidate}
use Rattle.route_table.specs.declared.route.Route.{Route}
use Rattle.route_table.specs.Ranks.{prefix_number}
use Rattle.route_table.specs.Routes.{IsRoute, AreRising, AreRoutes}
use Rattle.route_table.specs.declared.patch.Patch.{Patch}
use Rattle.route_table.specs.Putting.{IsPutIn}
use Rattle.route_table.specs.Patches.{is_touched, AreInTurn, IsPatched, ArePatches, AreClean, AreMoved, is_moved, IsPart, IsPatchOf, ArePrefixesInOrder, IsAgain, IsListed, HavePatches}

-- ---- whether a prefix has a patch

-- a patch for the prefix is found
pub touched : (patches : List Patch) (p : Patch) (n : ℕ) → Contains patches p → prefix_number p.prefix ≡ n → is_touched patches n ≡ true
touched patches p n there e =
    list_any_at (λ (x : Patch). prefix_number x.prefix == n) patches there.0 p there.1 (subst (λ (x : Patch). (prefix_number x.prefix == n) ≡ true) (sym there.2) (eq-eqb (prefix_number p.prefix) n e))

-- where none is for the prefix, none is found
abbrev Misses : List Patch → ℕ → Type 0
Misses patches n = (k : ℕ) (d : Patch) → k < length patches → prefix_number (get_or patches k d).prefix ≡ n → ⊥

pub untouched : (patches : List Patch) (n : ℕ) → Misses patches n → is_touched patches n ≡ false
untouched [] n miss = refl
untouched (p ∷ ps) n miss =
    elim (cases_Bool (prefix_number p.prefix == n)) [
      | inl here ↦ absurd (miss 0 p (omega arith) (eqb-true (prefix_number p.prefix) n here))
      | inr not-here ↦ rw not-here (untouched ps n (λ k d l. miss (suc k) d (omega arith)))
    ]

-- a patch that is found
abbrev Found : List Patch → ℕ → Type 0
Found patches n = (p : Patch) × Contains patches p × (prefix_number p.prefix ≡ n)

found_more : (p : Patch) (ps : List Patch) (n : ℕ) → Found ps n → Found (p ∷ ps) n
found_more p ps n f = let l = (f.1).1 in (f.0, (suc (f.1).0, omega arith, (f.1).2), f.2)

found_step : (p : Patch) (ps : List Patch) (n : ℕ) → (is_touched ps n ≡ true → Found ps n) → (t : Bool) → (prefix_number p.prefix == n) ≡ t → (t || is_touched ps n) ≡ true → Found (p ∷ ps) n
found_step p ps n rest true is any = (p, (0, omega arith, refl), eqb-true (prefix_number p.prefix) n is)
found_step p ps n rest false is any = found_more p ps n (rest any)

pub found : (patches : List Patch) (n : ℕ) → is_touched patches n ≡ true → Found patches n
found [] n any = absurd (let e : false ≡ true = any in cc)
found (p ∷ ps) n any = found_step p ps n (found ps n) (prefix_number p.prefix == n) refl any

abbrev route_or : Route → Option Route → Route
route_or other None = other
route_or other (Some route) = route

some_same : (x y : Route) → Some x ≡ Some y → x ≡ y
some_same x y e = ap (route_or x) e

-- ---- the law

-- a route for a prefix that nothing moved for is one still
route_stays : (HopTo HopBy : Candidate → ℕ → Type 0) (old new : List Candidate) (patches : List Patch) (r : Route) → AreClean HopTo HopBy old new patches → is_touched patches (prefix_number r.prefix) ≡ false → IsRoute HopTo old r → IsRoute HopBy new r
route_stays HopTo HopBy old new patches r clean free is =
    let at : (c : Candidate) → prefix_number c.prefix ≡ prefix_number r.prefix → is_touched patches (prefix_number c.prefix) ≡ false = λ c e. subst (λ (n : ℕ). is_touched patches n ≡ false) (sym e) free in
    record {
      some = (is.some.0, clean.out is.some.0 (at is.some.0 (is.some.2).0) is.some.1, is.some.2);
      best = λ c there e. is.best c (clean.into c (at c e) there) e;
      rising = is.rising;
      hops = λ hop. (
        (λ h. let t = (is.hops hop).0 h in let there = clean.out t.0 (at t.0 (t.2).0) t.1 in (t.0, there, t.2, (clean.hops t.0 hop (at t.0 (t.2).0) there).0 t.3)),
        (λ t. (is.hops hop).1 (t.0, clean.into t.0 (at t.0 (t.2).0) t.1, t.2, (clean.hops t.0 hop (at t.0 (t.2).0) t.1).1 t.3)),
      );
    }

-- the routes from scratch
pub routes_are : (HopTo HopBy : Candidate → ℕ → Type 0) (old new : List Candidate) (routes patched : List Route) (patches : List Patch) → AreRoutes HopTo old routes → ArePatches HopBy new patches → AreClean HopTo HopBy old new patches → IsPatched routes patches patched
    → AreRoutes HopBy new patched
routes_are HopTo HopBy old new routes patched patches are right clean is =
    record {
      rising = is.rising;
      each = λ r there.
          elim (is.each r there) [
            | inl brought ↦ (right.each brought.0 r brought.1 brought.2).0
            | inr stays ↦ route_stays HopTo HopBy old new patches r clean stays.1 (are.each r stays.0)
          ];
      all = λ c there.
          elim (cases_Bool (is_touched patches (prefix_number c.prefix))) [
            | inl has ↦
                let p = found patches (prefix_number c.prefix) has in
                let r = right.all p.0 c p.1 there (sym p.2) in
                let own = right.each p.0 r.0 p.1 r.1 in
                (r.0, is.brought r.0 (p.0, p.1, r.1), own.1 ∙ p.2)
            | inr free ↦
                let r = are.all c (clean.into c free there) in
                (r.0, is.kept r.0 r.1 (subst (λ (n : ℕ). is_touched patches n ≡ false) (sym r.2) free), r.2)
          ];
    }

-- nothing moved for other prefixes
pub is_clean : (HopTo HopBy : Candidate → ℕ → Type 0) (old new : List Candidate) (moved : List ℕ) (patches : List Patch) → AreMoved HopTo HopBy old new moved patches → AreClean HopTo HopBy old new patches
is_clean HopTo HopBy old new moved patches are =
    record {
      out = λ c free there.
          elim (cases_Bool (is_moved moved (node_number c.origin))) [
            | inl has ↦ absurd (let e = are.before c there has in cc)
            | inr not-moved ↦ are.out c not-moved there
          ];
      into = λ c free there.
          elim (cases_Bool (is_moved moved (node_number c.origin))) [
            | inl has ↦ absurd (let e = are.after c there has in cc)
            | inr not-moved ↦ are.into c not-moved there
          ];
      hops = λ c hop free there.
          elim (cases_Bool (is_moved moved (node_number c.origin))) [
            | inl has ↦ absurd (let e = are.after c there has in cc)
            | inr not-moved ↦ are.hops c hop not-moved
          ];
    }

-- a route of a part that has all candidates for its prefix is one of all
route_whole : (HopTo : Candidate → ℕ → Type 0) (new part : List Candidate) (patches : List Patch) (p : Patch) (r : Route) → IsPart new part patches → Contains patches p → prefix_number r.prefix ≡ prefix_number p.prefix → IsRoute HopTo part r → IsRoute HopTo new r
route_whole HopTo new part patches p r are there e is =
    let into : (c : Candidate) → prefix_number c.prefix ≡ prefix_number r.prefix → Contains new c → Contains part c = λ c same h. are.whole c h (touched patches p (prefix_number c.prefix) there (sym e ∙ sym same)) in
    record {
      some = (is.some.0, are.some is.some.0 is.some.1, is.some.2);
      best = λ c h same. is.best c (into c same h) same;
      rising = is.rising;
      hops = λ hop. (
        (λ h. let t = (is.hops hop).0 h in (t.0, are.some t.0 t.1, t.2, t.3)),
        (λ t. (is.hops hop).1 (t.0, into t.0 (t.2).0 t.1, t.2, t.3)),
      );
    }

-- patches that are right of a part are right of all
pub of_part : (HopTo : Candidate → ℕ → Type 0) (new part : List Candidate) (patches : List Patch) → ArePatches HopTo part patches → IsPart new part patches → ArePatches HopTo new patches
of_part HopTo new part patches right are =
    record {
      each = λ p r there is.
          let own = right.each p r there is in
          (route_whole HopTo new part patches p r are there own.1 own.0, own.1);
      all = λ p c there h same.
          right.all p c there (are.whole c h (touched patches p (prefix_number c.prefix) there (sym same))) same;
    }

-- patches by other next hops that are the same
pub by_hops : (HopTo HopBy : Candidate → ℕ → Type 0) (candidates : List Candidate) (patches : List Patch) → ((c : Candidate) (hop : ℕ) → HopTo c hop ↔ HopBy c hop) → ArePatches HopTo candidates patches → ArePatches HopBy candidates patches
by_hops HopTo HopBy candidates patches same right =
    record {
      each = λ p r there e.
          let own = right.each p r there e in
          let is = own.0 in (
            record {
              some = is.some;
              best = is.best;
              rising = is.rising;
              hops = λ hop. (
                (λ h. let t = (is.hops hop).0 h in (t.0, t.1, t.2, (same t.0 hop).0 t.3)),
                (λ t. (is.hops hop).1 (t.0, t.1, t.2, (same t.0 hop).1 t.3)),
              );
            },
            own.1,
          );
      all = right.all;
    }

-- ---- patches put in, one after another

clash : {P : Type 0} (b : Bool) → b ≡ true → b ≡ false → P
clash b is not-so = absurd (let e : true ≡ false = sym is ∙ not-so in cc)

-- what no patch is for has none among the first of them
free_less : (done : List Patch) (p : Patch) (n : ℕ) → is_touched (done ++ p ∷ []) n ≡ false → is_touched done n ≡ false
free_less done p n free =
    elim (cases_Bool (is_touched done n)) [
      | inl has ↦ let f = found done n has in clash (is_touched (done ++ p ∷ []) n) (touched (done ++ p ∷ []) f.0 n (Contains-append_left done (p ∷ []) f.0 f.1) f.2) free
      | inr none ↦ none
    ]

free_more : (done : List Patch) (p : Patch) (n : ℕ) → is_touched done n ≡ false → (prefix_number p.prefix ≡ n → ⊥) → is_touched (done ++ p ∷ []) n ≡ false
free_more done p n free apart =
    elim (cases_Bool (is_touched (done ++ p ∷ []) n)) [
      | inl has ↦
          let f = found (done ++ p ∷ []) n has in
          elim (Contains-push_cases done p f.0 f.1) [
            | inl there ↦ clash (is_touched done n) (touched done f.0 n there f.2) free
            | inr is ↦ absurd (apart (ap (λ (q : Patch). prefix_number q.prefix) is ∙ f.2))
          ]
      | inr none ↦ none
    ]

-- the next patch's prefix has none yet
not_yet : (done rest : List Patch) (p : Patch) → AreInTurn (done ++ p ∷ rest) → is_touched done (prefix_number p.prefix) ≡ false
not_yet done rest p turns =
    untouched done (prefix_number p.prefix) (λ k d l same.
    let long = length-append done (p ∷ rest) in
    let low = turns.below k (length done + 0) d (omega arith) (omega arith) in
    let here : prefix_number (get_or (done ++ p ∷ rest) k d).prefix ≡ prefix_number (get_or done k d).prefix = ap (λ (q : Patch). prefix_number q.prefix) (get_or_append_left done (p ∷ rest) d k l) in
    let there : prefix_number (get_or (done ++ p ∷ rest) (length done + 0) d).prefix ≡ prefix_number p.prefix = ap (λ (q : Patch). prefix_number q.prefix) (get_or-append-add done (p ∷ rest) 0 d) in
    absurd (omega arith))

module _ (old list new : List Route) (done rest : List Patch) (p : Patch) (turns : AreInTurn (done ++ p ∷ rest)) (is : IsPatched old done list) (put : IsPutIn list (prefix_number p.prefix) p.route new) where
  abbrev n : ℕ
  n = prefix_number p.prefix

  apart : (r : Route) → is_touched (done ++ p ∷ []) (prefix_number r.prefix) ≡ false → prefix_number r.prefix ≡ n → ⊥
  apart r free e = clash (is_touched (done ++ p ∷ []) (prefix_number r.prefix)) (touched (done ++ p ∷ []) p (prefix_number r.prefix) (Contains-push done p) (sym e)) free

  earlier : (b : Patch) (r : Route) → Contains done b → b.route ≡ Some r → prefix_number r.prefix ≡ n → ⊥
  earlier b r there e same =
      let own = turns.own b r (Contains-append_left done (p ∷ rest) b there) e in
      clash (is_touched done n) (touched done b n there (sym own ∙ same)) (not_yet done rest p turns)

  pub put_more : IsPatched old (done ++ p ∷ []) new
  put_more =
      record {
        rising = put.rising;
        each = λ r h.
            elim (put.each r h) [
              | inl e ↦ inl (p, Contains-push done p, e)
              | inr both ↦
                  elim (is.each r both.0) [
                    | inl b ↦ inl (b.0, Contains-append_left done (p ∷ []) b.0 b.1, b.2)
                    | inr stays ↦ inr (stays.0, free_more done p (prefix_number r.prefix) stays.1 (λ e. both.1 (sym e)))
                  ]
            ];
        brought = λ r b.
            elim (Contains-push_cases done p b.0 b.1) [
              | inl there ↦ put.kept r (is.brought r (b.0, there, b.2)) (earlier b.0 r there b.2)
              | inr here ↦ put.brought r (ap (λ (q : Patch). q.route) here ∙ b.2)
            ];
        kept = λ r h free. put.kept r (is.kept r h (free_less done p (prefix_number r.prefix) free)) (apart r free);
      }

-- what holds of the route of a patch, if it has one
pub own-some : (o : Option Route) (P : Route → Type 0) → ((r : Route) → o ≡ Some r → P r) → IfSome o P
own-some None P all = tt
own-some (Some r) P all = all r refl

-- nothing is put in yet
pub put_none : (old : List Route) → AreRising old → IsPatched old [] old
put_none old rising =
    record {
      rising = rising;
      each = λ r h. inr (h, refl);
      brought = λ r b. let l = (b.1).1 in absurd (omega arith);
      kept = λ r h free. h;
    }

-- ---- a patch for each prefix

pub have_none : (HopTo : Candidate → ℕ → Type 0) (candidates : List Candidate) (prefixes : List Prefix) → HavePatches HopTo candidates prefixes [] 0
have_none HopTo candidates prefixes =
    record {
      turn = record {
        below = λ i j d less l. absurd (omega arith);
        own = λ p r h. let l = h.1 in absurd (omega arith);
      };
      each = λ p h. let l = h.1 in absurd (omega arith);
      from = λ p h. let l = h.1 in absurd (omega arith);
      all = λ k d l. absurd (omega arith);
    }

abbrev number_at : List Prefix → ℕ → Prefix → ℕ
number_at prefixes k d = prefix_number (get_or prefixes k d)

-- one that is there again has a patch
pub have_again : (HopTo : Candidate → ℕ → Type 0) (candidates : List Candidate) (prefixes : List Prefix) (list : List Patch) (place : ℕ) → HavePatches HopTo candidates prefixes list place → IsAgain prefixes place → HavePatches HopTo candidates prefixes list (place + 1)
have_again HopTo candidates prefixes list place have again =
    let some = again.0 in
    record {
      turn = have.turn;
      each = have.each;
      from = λ p h. let f = have.from p h in (f.0, omega (arith, f.1), f.2);
      all = λ k d l.
          elim (cases_lt k place) [
            | inl before ↦ have.all k d before
            | inr not-before ↦
                let here : place ≡ k = omega arith in
                subst (λ (m : ℕ). is_touched list (number_at prefixes m d) ≡ true) here
                (subst (λ (m : ℕ). is_touched list m ≡ true) (sym (again.1 d)) (have.all (place - 1) d (omega arith)))
          ];
    }

-- one that isn't gets one
module _ (HopTo : Candidate → ℕ → Type 0) (candidates : List Candidate) (prefixes : List Prefix) (list : List Patch) (place : ℕ) (p : Patch) (order : ArePrefixesInOrder prefixes) (inside : place < length prefixes)
    (have : HavePatches HopTo candidates prefixes list place) (other : IsAgain prefixes place → ⊥) (is : IsPatchOf HopTo candidates p.prefix p) (here : (d : Prefix) → number_at prefixes place d ≡ prefix_number p.prefix) where
  past : (k : ℕ) (d : Prefix) → k < place → number_at prefixes k d < prefix_number p.prefix
  past k d before =
      let last = order.order (place - 1) place d (omega arith) inside in
      let same = here d in
      let low : number_at prefixes k d ≤ number_at prefixes (place - 1) d = elim (cases_lt k (place - 1)) [
        | inl less ↦ order.order k (place - 1) d less (omega arith)
        | inr not-less ↦ let e : k ≡ place - 1 = omega arith in let f : number_at prefixes k d ≡ number_at prefixes (place - 1) d = ap (λ (m : ℕ). number_at prefixes m d) e in omega arith
      ] in
      elim (cases_lt (number_at prefixes (place - 1) d) (number_at prefixes place d)) [
        | inl less ↦ omega arith
        | inr not-less ↦
            let e : number_at prefixes place d ≡ number_at prefixes (place - 1) d = omega arith in
            absurd (other (omega arith, λ c. ap prefix_number (get_or_default prefixes place c d inside) ∙ e ∙ sym (ap prefix_number (get_or_default prefixes (place - 1) c d (omega arith)))))
      ]

  below_new : (q : Patch) → Contains list q → prefix_number q.prefix < prefix_number p.prefix
  below_new q h = let f = have.from q h in let e = f.2 q.prefix in let l = past f.0 q.prefix f.1 in omega arith

  pub have_one : HavePatches HopTo candidates prefixes (list ++ p ∷ []) (place + 1)
  have_one =
      record {
        turn = record {
          below = λ i j d less l.
              let long = length_push list p in
              let a : prefix_number (get_or (list ++ p ∷ []) i d).prefix ≡ prefix_number (get_or list i d).prefix = ap (λ (q : Patch). prefix_number q.prefix) (get_or_append_left list (p ∷ []) d i (omega arith)) in
              elim (cases_lt j (length list)) [
                | inl old ↦
                    let b : prefix_number (get_or (list ++ p ∷ []) j d).prefix ≡ prefix_number (get_or list j d).prefix = ap (λ (q : Patch). prefix_number q.prefix) (get_or_append_left list (p ∷ []) d j old) in
                    let up = have.turn.below i j d less old in
                    omega arith
                | inr new ↦
                    let b : prefix_number (get_or (list ++ p ∷ []) j d).prefix ≡ prefix_number p.prefix = ap (λ (q : Patch). prefix_number q.prefix) (get_or_push list p d j (omega arith)) in
                    let up = below_new (get_or list i d) (Contains-get_or list i d (omega arith)) in
                    omega arith
              ];
          own = λ q r h e.
              elim (Contains-push_cases list p q h) [
                | inl there ↦ have.turn.own q r there e
                | inr same ↦ (is.some r (ap (λ (x : Patch). x.route) same ∙ e)).1 ∙ ap (λ (x : Patch). prefix_number x.prefix) same
              ];
        };
        each = λ q h.
            elim (Contains-push_cases list p q h) [
              | inl there ↦ have.each q there
              | inr same ↦ subst (λ (x : Patch). IsPatchOf HopTo candidates x.prefix x) same is
            ];
        from = λ q h.
            elim (Contains-push_cases list p q h) [
              | inl there ↦ let f = have.from q there in (f.0, omega (arith, f.1), f.2)
              | inr same ↦ (place, omega arith, λ d. here d ∙ ap (λ (x : Patch). prefix_number x.prefix) same)
            ];
        all = λ k d l.
            elim (cases_lt k place) [
              | inl before ↦
                  let f = found list (number_at prefixes k d) (have.all k d before) in
                  touched (list ++ p ∷ []) f.0 (number_at prefixes k d) (Contains-append_left list (p ∷ []) f.0 f.1) f.2
              | inr not-before ↦
                  let at : place ≡ k = omega arith in
                  subst (λ (m : ℕ). is_touched (list ++ p ∷ []) (number_at prefixes m d) ≡ true) at
                  (touched (list ++ p ∷ []) p (number_at prefixes place d) (Contains-push list p) (sym (here d)))
            ];
      }

some_route : (o : Option Route) → (o ≡ None → ⊥) → (r : Route) × (o ≡ Some r)
some_route None some = absurd (some refl)
some_route (Some r) some = (r, refl)

-- patches for all prefixes are right of the candidates in order, and of these in any other
pub all_right : (HopTo : Candidate → ℕ → Type 0) (sorted candidates : List Candidate) (prefixes : List Prefix) (list : List Patch) (many : ℕ) → HavePatches HopTo sorted prefixes list many → ((c : Candidate) → Contains candidates c → Contains sorted c) → ((c : Candidate) → Contains sorted c → Contains candidates c)
    → ArePatches HopTo candidates list
all_right HopTo sorted candidates prefixes list many have into out =
    record {
      each = λ p r h e.
          let own = (have.each p h).some r e in
          let is = own.0 in (
            record {
              some = (is.some.0, out is.some.0 is.some.1, is.some.2);
              best = λ c there same. is.best c (into c there) same;
              rising = is.rising;
              hops = λ hop. (
                (λ x. let t = (is.hops hop).0 x in (t.0, out t.0 t.1, t.2, t.3)),
                (λ t. (is.hops hop).1 (t.0, into t.0 t.1, t.2, t.3)),
              );
            },
            own.1,
          );
      all = λ p c h there same. some_route p.route (λ none. (have.each p h).none none c (into c there) same);
    }

-- a prefix is touched just where it is listed
pub touched_as : (HopTo : Candidate → ℕ → Type 0) (sorted : List Candidate) (prefixes : List Prefix) (list : List Patch) → HavePatches HopTo sorted prefixes list (length prefixes) → (n : ℕ) → is_touched list n ≡ true ↔ IsListed prefixes n
touched_as HopTo sorted prefixes list have n = (
  (λ has.
      let f = found list n has in
      let g = have.from f.0 f.1 in
      (get_or prefixes g.0 (f.0).prefix, Contains-get_or prefixes g.0 (f.0).prefix g.1, g.2 (f.0).prefix ∙ f.2)),
  (λ l. let h = l.1 in subst (λ (m : ℕ). is_touched list m ≡ true) (ap prefix_number h.2 ∙ l.2) (have.all h.0 l.0 h.1)),
)
