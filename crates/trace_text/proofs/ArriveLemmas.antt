-- Where routers are alike a packet that is followed arrives.
use Rattle.std.proofs.Common.{◌≡◌, ◌≢◌, ℕ, zero, suc, ◌+◌, ◌<◌, ◌≤◌, Bool, true, false, List, [], ◌∷◌, ◌++◌, map, length, if◌then◌else◌, Option, Some, None, refl, sym, ap, ◌∙◌, subst, arith}
use Rattle.std.specs.Prelude.{slice_get}
use Rattle.std.specs.List.{Contains}
use Rattle.std.proofs.lemmas.Bool.Decides.{Decides-eqb}
use Rattle.model_router.specs.Places.{nth}
use Rattle.spf_tree.specs.Nodes.{node_number}
use Rattle.route_table.specs.declared.route.Route.{Route}
use Rattle.route_table.specs.Ranks.{rank_number}
use Rattle.route_table.specs.Routes.{AreRising}
use Rattle.route_table.specs.Lookups.{IsLongest}
use Rattle.router_routes.specs.Outlooks.{graph_in}
use Rattle.forward_views.specs.Walked.{RouterOf, IsRouteOf, IsMove, AreMoves}
use Rattle.forward_views.specs.Looks.{Look, root_of, is_own, AreAlike, IsOwner}
use Rattle.forward_views.specs.Forwarded.{router_in, IsReached}
use Rattle.trace_core.specs.declared.outcomes.Outcomes.{Outcomes}
use Rattle.trace_core.specs.declared.step.Step.{Step}
use Rattle.trace_core.specs.declared.step.Step.TheVariants.{Home, On, Lost}
use Rattle.trace_core.specs.declared.step.End.{End}
use Rattle.trace_core.specs.declared.step.End.TheVariants as ended
use Rattle.trace_core.specs.declared.step.Traced.{Traced}
use Rattle.trace_core.specs.Traces as way
use Rattle.trace_core.specs.Whichever.{may, MayLoop, AreOutcomes}
use Rattle.packet_trace.specs.declared.forwarder.Forwarder.{Forwarder}
use Rattle.packet_trace.specs.Steps.{step_at, steps_at, route_at, route_of, step_by, steps_by, step_on, steps_on, step_to, place_of, node_of, looked_up}
use Rattle.packet_trace.proofs.LookupLemmas.{only}
use Rattle.trace_text.specs.Forwarders.{forwarder_of}
use Rattle.trace_text.specs.Arrivals.{AreFound, IsArrived, arrives_alone}
use Rattle.trace_text.proofs.HandingLemmas.{get-map, nodes-are}
use Rattle.trace_text.proofs.PlaceLemmas.{contains-nth, of-map, first-there, some-first, slice-there, place-is, place-there, on-one, each}

abbrev root-in : RouterOf → ℕ
root-in r = node_number r.one.root

moves-more : (routers : List RouterOf) (prefix : ℕ) (from mid to : RouterOf) (cost : ℕ) (moves : List (RouterOf × ℕ)) → AreMoves routers prefix from moves mid → IsMove routers prefix mid to cost → AreMoves routers prefix from (moves ++ ((to, cost) ∷ [])) to
moves-more routers prefix from mid to cost [] p m = (subst (λ (r : RouterOf). IsMove routers prefix r to cost) p m, refl)
moves-more routers prefix from mid to cost (move ∷ moves) p m = (p.0, moves-more routers prefix move.0 mid to cost moves p.1 m)

longer : {X : Type 0} (xs : List X) (x : X) → length (xs ++ (x ∷ [])) ≡ length xs + 1
longer [] x = refl
longer (y ∷ xs) x = let e = longer xs x in omega (arith, e)

-- what a place says by its route
home-by : (roots : List ℕ) (route : Route) → Home ≡ step_by roots (Some route) → rank_number route.rank ≡ 0
home-by roots route e = by (is_own route) refl e
  where
    other : (o : Option ℕ) → Home ≡ step_to o → ⊥
    other None k = cc
    other (Some p) k = cc

    first : (o : Option ℕ) → Home ≡ step_on roots o → ⊥
    first None k = cc
    first (Some hop) k = other (place_of roots hop) k

    by : (t : Bool) → is_own route ≡ t → Home ≡ (if t then Home else step_on roots (slice_get route.hops 0)) → rank_number route.rank ≡ 0
    by true t k = (Decides-eqb (rank_number route.rank) 0).0 t
    by false t k = absurd (first (slice_get route.hops 0) k)

on-by : (roots : List ℕ) (route : Route) (next : ℕ) → On next ≡ step_by roots (Some route) → (rank_number route.rank ≢ 0) × ((hop : ℕ) × (slice_get route.hops 0 ≡ Some hop) × (place_of roots hop ≡ Some next))
on-by roots route next e = by (is_own route) refl e
  where
    place : (o : Option ℕ) → On next ≡ step_to o → o ≡ Some next
    place None k = absurd (cc)
    place (Some p) k = ap Some (sym (on-one next p k))

    first : (o : Option ℕ) → On next ≡ step_on roots o → (hop : ℕ) × (o ≡ Some hop) × (place_of roots hop ≡ Some next)
    first None k = absurd (cc)
    first (Some hop) k = (hop, refl, place (place_of roots hop) k)

    apart : true ≡ false → ⊥
    apart k = cc

    by : (t : Bool) → is_own route ≡ t → On next ≡ (if t then Home else step_on roots (slice_get route.hops 0)) → (rank_number route.rank ≢ 0) × ((hop : ℕ) × (slice_get route.hops 0 ≡ Some hop) × (place_of roots hop ≡ Some next))
    by true t k = absurd (cc)
    by false t k = ((λ nought. apart (sym ((Decides-eqb (rank_number route.rank) 0).1 nought) ∙ t)), first (slice_get route.hops 0) k)

lost-by : (roots : List ℕ) (route : Route) (hop place : ℕ) → slice_get route.hops 0 ≡ Some hop → place_of roots hop ≡ Some place → Lost ≡ step_by roots (Some route) → ⊥
lost-by roots route hop place h p e = by (is_own route) e
  where
    by : (t : Bool) → Lost ≡ (if t then Home else step_on roots (slice_get route.hops 0)) → ⊥
    by true k = cc
    by false k = (λ (m : Lost ≡ On place). bad m) (k ∙ ap (step_on roots) h ∙ ap step_to p)
      where
        bad : Lost ≡ On place → ⊥
        bad m = cc

lost-own : (roots : List ℕ) (route : Route) → rank_number route.rank ≡ 0 → Lost ≡ step_by roots (Some route) → ⊥
lost-own roots route nought e = by (is_own route) ((Decides-eqb (rank_number route.rank) 0).1 nought) e
  where
    by : (t : Bool) → t ≡ true → Lost ≡ (if t then Home else step_on roots (slice_get route.hops 0)) → ⊥
    by true t k = cc
    by false t k = cc

-- ---- what it may say

on-any : (roots : List ℕ) (route : Route) (next : ℕ) → Contains (steps_by roots (Some route)) (On next) → (rank_number route.rank ≢ 0) × ((hop : ℕ) × Contains route.hops hop × (place_of roots hop ≡ Some next))
on-any roots route next h = by (is_own route) refl h
  where
    one : (s : Step) → Contains (s ∷ []) (On next) → s ≡ On next
    one s (zero, l, e) = e
    one s (suc k, l, e) = absurd (omega (arith, l))

    place : (o : Option ℕ) → step_to o ≡ On next → o ≡ Some next
    place None k = absurd (cc)
    place (Some p) k = ap Some (on-one p next k)

    leads : (hops : List ℕ) → Contains (steps_on roots hops) (On next) → (hop : ℕ) × Contains hops hop × (place_of roots hop ≡ Some next)
    leads [] m = absurd (let e = one Lost m in cc)
    leads (hop ∷ hops) m =
        let r = of-map (λ (h : ℕ). step_to (place_of roots h)) (hop ∷ hops) (On next) m in
        (r.0, r.1, place (place_of roots r.0) r.2)

    apart : true ≡ false → ⊥
    apart k = cc

    by : (t : Bool) → is_own route ≡ t → Contains (if t then Home ∷ [] else steps_on roots route.hops) (On next)
        → (rank_number route.rank ≢ 0) × ((hop : ℕ) × Contains route.hops hop × (place_of roots hop ≡ Some next))
    by true t k = absurd (let e = one Home k in cc)
    by false t k = ((λ nought. apart (sym ((Decides-eqb (rank_number route.rank) 0).1 nought) ∙ t)), leads route.hops k)

-- it is lost only where a next hop is none of the routers, if there is one
lost-any : (roots : List ℕ) (route : Route) → Contains (steps_by roots (Some route)) Lost
    → (rank_number route.rank ≢ 0) × ((some : ℕ) → Contains route.hops some → (hop : ℕ) × Contains route.hops hop × (place_of roots hop ≡ None))
lost-any roots route h = by (is_own route) refl h
  where
    one : (s : Step) → Contains (s ∷ []) Lost → s ≡ Lost
    one s (zero, l, e) = e
    one s (suc k, l, e) = absurd (omega (arith, l))

    place : (o : Option ℕ) → step_to o ≡ Lost → o ≡ None
    place None k = refl
    place (Some p) k = absurd (cc)

    leads : (hops : List ℕ) → Contains (steps_on roots hops) Lost → (some : ℕ) → Contains hops some → (hop : ℕ) × Contains hops hop × (place_of roots hop ≡ None)
    leads [] m some there = absurd (let l = there.1 in omega (arith, l))
    leads (hop ∷ hops) m some there =
        let r = of-map (λ (h : ℕ). step_to (place_of roots h)) (hop ∷ hops) Lost m in
        (r.0, r.1, place (place_of roots r.0) r.2)

    apart : true ≡ false → ⊥
    apart k = cc

    by : (t : Bool) → is_own route ≡ t → Contains (if t then Home ∷ [] else steps_on roots route.hops) Lost
        → (rank_number route.rank ≢ 0) × ((some : ℕ) → Contains route.hops some → (hop : ℕ) × Contains route.hops hop × (place_of roots hop ≡ None))
    by true t k = absurd (let e = one Home k in cc)
    by false t k = ((λ nought. apart (sym ((Decides-eqb (rank_number route.rank) 0).1 nought) ∙ t)), leads route.hops k)

-- what it says is one of these
says-one : (roots : List ℕ) (o : Option Route) → Contains (steps_by roots o) (step_by roots o)
says-one roots None = (0, omega arith, refl)
says-one roots (Some route) = by (is_own route)
  where
    first : (hops : List ℕ) → Contains (steps_on roots hops) (step_on roots (slice_get hops 0))
    first [] = (0, omega arith, refl)
    first (hop ∷ hops) = (0, omega arith, refl)

    by : (t : Bool) → Contains (if t then Home ∷ [] else steps_on roots route.hops) (if t then Home else step_on roots (slice_get route.hops 0))
    by true = (0, omega arith, refl)
    by false = first route.hops

says-at : (fs : List Forwarder) (address place : ℕ) (step : Step) → step_at fs address place ≡ step → may (steps_at fs address) place step
says-at fs address place step e = subst (λ (s : Step). Contains (steps_at fs address place) s) e (says-one (map node_of fs) (route_at fs address place))

may-moves : (fs : List Forwarder) (address from to : ℕ) (places : List ℕ) → way.AreMoves (way.by (step_at fs address)) from places to → way.AreMoves (may (steps_at fs address)) from places to
may-moves fs address from to [] m = m
may-moves fs address from to (next ∷ places) m = (says-at fs address from (On next) m.0, may-moves fs address next to places m.1)

is-false : (b : Bool) → (b ≡ true → ⊥) → b ≡ false
is-false true none = absurd (none refl)
is-false false none = refl

module _ (looks : List Look) (prefix address from : ℕ) (owner first : Look) (route : Route)
    (law : (moves : List (RouterOf × ℕ)) (to : RouterOf) → AreMoves (map router_in looks) prefix (router_in first) moves to → IsReached looks prefix owner route moves to)
    (one : (routes : List Route) (address : ℕ) (a b : Route) → AreRising routes → IsLongest routes address a → IsLongest routes address b → a ≡ b)
    (alike : AreAlike looks) (owned : IsOwner looks prefix owner) (found : AreFound looks prefix address) (first_at : nth looks from ≡ Some first) where
  same-router : (a b : Look) → Contains looks a → Contains looks b → router_in a ≡ router_in b → a ≡ b
  unfolding graph_in node_number
  same-router a b h k e = alike.one_each a b h k (ap root-in e)

  -- it stands at a place after moves along next hops of the prefix
  record IsAt (place : ℕ) (many : ℕ) : Type 0 where
    pub look : Look
    pub at : nth looks place ≡ Some look
    pub moves : List (RouterOf × ℕ)
    pub are : AreMoves (map router_in looks) prefix (router_in first) moves (router_in look)
    pub many_are : length moves ≡ many

  begins : IsAt from 0
  begins = record { look = first; at = first_at; moves = []; are = refl; many_are = refl }

  -- what it found there
  record IsFound (place : ℕ) (look : Look) (moves : List (RouterOf × ℕ)) : Type 0 where
    pub last : Route
    pub has : IsRouteOf (router_in look) prefix last
    pub reached : IsReached looks prefix owner route moves (router_in look)
    pub few : length moves < length looks
    pub home : look ≡ owner → rank_number last.rank ≡ 0
    pub onward : look ≢ owner → (hop : ℕ) → Contains last.hops hop → (next : Look) × Contains looks next × (root_of next ≡ hop) × ((cost : ℕ) × IsMove (map router_in looks) prefix (router_in look) (router_in next) cost)
    pub goes_on : look ≢ owner → (hop : ℕ) × Contains last.hops hop
    pub says : step_at (map forwarder_of looks) address place ≡ step_by (map root_of looks) (Some last)
    pub may_say : steps_at (map forwarder_of looks) address place ≡ steps_by (map root_of looks) (Some last)

  finds : (place many : ℕ) (s : IsAt place many) → IsFound place s.look s.moves
  finds place many s = record {
    last = r.last;
    has = r.has;
    reached = r;
    few = r.few;
    home = λ e. r.home (sym same ∙ e);
    onward = λ other hop h. let o = r.onward (λ e. other (same ∙ e)) hop h in (o.0, o.1.0, o.1.1, o.2);
    goes_on = λ other. r.goes_on (λ e. other (same ∙ e));
    says = by step_by;
    may_say = by steps_by;
  }
    where
      r : IsReached looks prefix owner route s.moves (router_in s.look)
      r = law s.moves (router_in s.look) s.are

      there : Contains looks s.look
      there = contains-nth looks place s.look s.at

      same : s.look ≡ r.at
      same = same-router s.look r.at there r.there r.is

      longest : IsLongest s.look.routes address r.last
      longest = found s.look r.last there r.has

      found_route : looked_up s.look.routes address ≡ Some r.last
      found_route = only one s.look.routes address (alike.routes_are s.look there).rising (Some r.last) longest

      by : {X : Type 0} (f : List ℕ → Option Route → X) → f (map node_of (map forwarder_of looks)) (route_at (map forwarder_of looks) address place) ≡ f (map root_of looks) (Some r.last)
      by f =
          ap (λ (o : Option Forwarder). f (map node_of (map forwarder_of looks)) (route_of address o)) (get-map forwarder_of looks place s.look s.at)
          ∙ ap (λ (ns : List ℕ). f ns (looked_up s.look.routes address)) (nodes-are looks)
          ∙ ap (f (map root_of looks)) found_route

  -- one move more, along any of the next hops
  goes-by : (place many next hop : ℕ) (s : IsAt place many) → rank_number (finds place many s).last.rank ≢ 0 → Contains (finds place many s).last.hops hop → place_of (map root_of looks) hop ≡ Some next → IsAt next (many + 1)
  goes-by place many next hop s ranked there leads =
      let f = finds place many s in
      let o = f.onward (λ e. ranked (f.home e)) hop there in
      let p = place-is root_of looks hop next leads in
      let same : o.0 ≡ p.0 = alike.one_each o.0 p.0 o.1 (contains-nth looks next p.0 p.1) (o.2 ∙ sym p.2) in
      record {
        look = o.0;
        at = p.1 ∙ ap Some (sym same);
        moves = s.moves ++ ((router_in o.0, o.3.0) ∷ []);
        are = moves-more (map router_in looks) prefix (router_in first) (router_in s.look) (router_in o.0) o.3.0 s.moves s.are o.3.1;
        many_are = longer s.moves (router_in o.0, o.3.0) ∙ ap (λ (n : ℕ). n + 1) s.many_are;
      }

  -- along the first one
  goes : (place many next : ℕ) → IsAt place many → step_at (map forwarder_of looks) address place ≡ On next → IsAt next (many + 1)
  goes place many next s is =
      let f = finds place many s in
      let h = on-by (map root_of looks) f.last next (sym is ∙ f.says) in
      goes-by place many next h.1.0 s h.0 (first-there f.last.hops h.1.0 h.1.1) h.1.2

  follows : (place many last : ℕ) (more : List ℕ) → IsAt place many → way.AreMoves (way.by (step_at (map forwarder_of looks) address)) place more last → (n : ℕ) × IsAt last n
  follows place many last [] s m = (many, subst (λ (p : ℕ). IsAt p many) (sym m) s)
  follows place many last (x ∷ more) s m = follows x (many + 1) last more (goes place many x s m.0) m.1

  -- it can't go round
  turns : (all : List ℕ) → Contains all from → ((p : ℕ) → Contains all p → (n : ℕ) × (step_at (map forwarder_of looks) address p ≡ On n) × Contains all n) → (many : ℕ) → (p : ℕ) × Contains all p × IsAt p many
  turns all has each-on zero = (from, has, begins)
  turns all has each-on (suc many) =
      let t = turns all has each-on many in
      let e = each-on t.0 t.1 in
      (e.0, e.2, subst (IsAt e.0) (plus many) (goes t.0 many e.0 t.2 e.1))
    where
      plus : (n : ℕ) → n + 1 ≡ suc n
      plus n = omega arith

  endless : (all : List ℕ) → Contains all from → ((p : ℕ) → Contains all p → (n : ℕ) × (step_at (map forwarder_of looks) address p ≡ On n) × Contains all n) → ⊥
  endless all has each-on =
      let t = turns all has each-on (length looks) in
      let f = finds t.0 (length looks) t.2 in
      let few = f.few in
      let many = t.2.many_are in
      omega (arith, few, many)

  lost : (place many : ℕ) → IsAt place many → step_at (map forwarder_of looks) address place ≡ Lost → ⊥
  lost place many s is =
      let f = finds place many s in
      let other : s.look ≢ owner = λ e. lost-own (map root_of looks) f.last (f.home e) (sym is ∙ f.says) in
      let h = f.goes_on other in
      let y = some-first f.last.hops h.0 h.1 in
      let o = f.onward other y.0 (first-there f.last.hops y.0 y.1) in
      let p = place-there root_of looks o.0 o.1 in
      lost-by (map root_of looks) f.last y.0 p.0 y.1 (ap (place_of (map root_of looks)) (sym o.2) ∙ p.1) (sym is ∙ f.says)

  home : (place many : ℕ) (s : IsAt place many) → step_at (map forwarder_of looks) address place ≡ Home → s.look ≡ owner
  home place many s is =
      let f = finds place many s in
      owned.only s.look (contains-nth looks place s.look s.at) (f.last, f.has.0, f.has.1, home-by (map root_of looks) f.last (sym is ∙ f.says))

  arrived-by : (traced : Traced) (t : way.IsTraced (way.by (step_at (map forwarder_of looks) address)) from traced) (end : End) → traced.end ≡ end → way.IsEnd (way.by (step_at (map forwarder_of looks) address)) traced.places.items t.last end → IsArrived looks prefix owner route traced
  arrived-by traced t ended.Arrives e is =
      let s = follows from 0 t.last t.more begins t.moves in
      let h = home t.last s.0 s.1 is in
      record {
        arrives = e;
        last = t.last;
        there = subst (λ (ps : List ℕ). Contains ps t.last) (sym t.places_are) (last-in from t.last t.more t.moves);
        at = s.1.at ∙ ap Some h;
        moves = s.1.moves;
        reached = subst (λ (l : Look). IsReached looks prefix owner route s.1.moves (router_in l)) h (finds t.last s.0 s.1).reached;
      }
    where
      last-in : (p last : ℕ) (more : List ℕ) → way.AreMoves (way.by (step_at (map forwarder_of looks) address)) p more last → Contains (p ∷ more) last
      last-in p last [] m = (0, omega arith, sym m)
      last-in p last (x ∷ more) m = let h = last-in x last more m.1 in (suc h.0, (let l = h.1 in omega (arith, l)), h.2)
  arrived-by traced t ended.Lost e is = let s = follows from 0 t.last t.more begins t.moves in absurd (lost t.last s.0 s.1 is)
  arrived-by traced t (ended.Loops back) e is =
      absurd (endless traced.places.items (subst (λ (ps : List ℕ). Contains ps from) (sym t.places_are) (0, omega arith, refl))
      (λ p h. each (way.by (step_at (map forwarder_of looks) address)) traced.places.items from t.last is.0 t.more t.moves (λ q k. subst (λ (ps : List ℕ). Contains ps q) (sym t.places_are) k) is.2 (slice-there traced.places.items back is.0 is.1) p
      (subst (λ (ps : List ℕ). Contains ps p) t.places_are h)))

  -- ---- whichever next hop is taken

  goes-any : (place many next : ℕ) → IsAt place many → may (steps_at (map forwarder_of looks) address) place (On next) → IsAt next (many + 1)
  goes-any place many next s m =
      let f = finds place many s in
      let h = on-any (map root_of looks) f.last next (subst (λ (ss : List Step). Contains ss (On next)) f.may_say m) in
      goes-by place many next h.1.0 s h.0 h.1.1 h.1.2

  follows-any : (place many to : ℕ) (places : List ℕ) → IsAt place many → way.AreMoves (may (steps_at (map forwarder_of looks) address)) place places to → (n : ℕ) × (n ≡ many + length places) × IsAt to n
  follows-any place many to [] s m = (many, omega arith, subst (λ (p : ℕ). IsAt p many) (sym m) s)
  follows-any place many to (next ∷ places) s m =
      let r = follows-any next (many + 1) to places (goes-any place many next s m.0) m.1 in
      (r.0, (let e = r.1 in omega (arith, e)), r.2)

  around : (at n : ℕ) (next : ℕ) (places : List ℕ) → IsAt at n → way.AreMoves (may (steps_at (map forwarder_of looks) address)) at (next ∷ places) at → (turns : ℕ) → (m : ℕ) × (turns ≤ m) × IsAt at m
  around at n next places s moves zero = (n, omega arith, s)
  around at n next places s moves (suc turns) =
      let r = around at n next places s moves turns in
      let q = follows-any at r.0 at (next ∷ places) r.2 moves in
      (q.0, (let l = r.1 in let e = q.1 in omega (arith, l, e)), q.2)

  never-loops : MayLoop (steps_at (map forwarder_of looks) address) from → ⊥
  never-loops l =
      let s = follows-any from 0 l.0 l.1.0 begins l.1.1 in
      let r = around l.0 s.0 l.2.0 l.2.1 s.2 l.2.2 (length looks) in
      let few = (finds l.0 r.0 r.2).few in
      let many = r.2.many_are in
      let turns = r.1 in
      omega (arith, few, many, turns)

  never-lost : (place many : ℕ) → IsAt place many → may (steps_at (map forwarder_of looks) address) place Lost → ⊥
  never-lost place many s m =
      let f = finds place many s in
      let h = lost-any (map root_of looks) f.last (subst (λ (ss : List Step). Contains ss Lost) f.may_say m) in
      let other : s.look ≢ owner = λ e. h.0 (f.home e) in
      let some = f.goes_on other in
      let hop = h.1 some.0 some.1 in
      let o = f.onward other hop.0 hop.1 in
      let p = place-there root_of looks o.0 o.1 in
      none (ap (place_of (map root_of looks)) o.2 ∙ hop.2) p.1
    where
      none : {o : Option ℕ} {p : ℕ} → o ≡ None → o ≡ Some p → ⊥
      none e k = cc

  alone-by : (traced : Traced) → way.IsTraced (way.by (step_at (map forwarder_of looks) address)) from traced → (outcomes : Outcomes) → AreOutcomes (steps_at (map forwarder_of looks) address) from outcomes → outcomes ≡ arrives_alone
  alone-by traced t outcomes are = λ i. record { arrives = arrives i; loops = loops i; lost = lost i }
    where
      a : IsArrived looks prefix owner route traced
      a = arrived-by traced t traced.end refl t.ends

      home : step_at (map forwarder_of looks) address t.last ≡ Home
      home = subst (way.IsEnd (way.by (step_at (map forwarder_of looks) address)) traced.places.items t.last) a.arrives t.ends

      arrives : outcomes.arrives ≡ true
      arrives = are.arrives.1 (t.last, (t.more, may-moves (map forwarder_of looks) address from t.last t.more t.moves), says-at (map forwarder_of looks) address t.last Home home)

      loops : outcomes.loops ≡ false
      loops = is-false outcomes.loops (λ e. never-loops (are.loops.0 e))

      lost : outcomes.lost ≡ false
      lost = is-false outcomes.lost (λ e. let l = are.lost.0 e in let s = follows-any from 0 l.0 l.1.0 begins l.1.1 in never-lost l.0 s.0 s.2 l.2)

-- what walks and tables promise
abbrev pub ForwardLaw : Type 0
ForwardLaw = (looks : List Look) (prefix : ℕ) (owner from : Look) (route : Route) (moves : List (RouterOf × ℕ)) (to : RouterOf)
    → AreAlike looks → IsOwner looks prefix owner → Contains looks from → IsRouteOf (router_in from) prefix route → AreMoves (map router_in looks) prefix (router_in from) moves to → IsReached looks prefix owner route moves to

abbrev pub OneLongest : Type 0
OneLongest = (routes : List Route) (address : ℕ) (a b : Route) → AreRising routes → IsLongest routes address a → IsLongest routes address b → a ≡ b

pub arrived : ForwardLaw → OneLongest
    → (looks : List Look) (prefix address from : ℕ) (owner first : Look) (route : Route) (traced : Traced) → AreAlike looks → IsOwner looks prefix owner → AreFound looks prefix address → nth looks from ≡ Some first → IsRouteOf (router_in first) prefix route
    → way.IsTraced (way.by (step_at (map forwarder_of looks) address)) from traced → IsArrived looks prefix owner route traced
arrived law one looks prefix address from owner first route traced alike owned found at has t =
    arrived-by looks prefix address from owner first route
    (λ moves to m. law looks prefix owner first route moves to alike owned (contains-nth looks from first at) has m)
    one
    alike owned found at traced t traced.end refl t.ends

pub alone : ForwardLaw → OneLongest
    → (looks : List Look) (prefix address from : ℕ) (owner first : Look) (route : Route) (traced : Traced) (outcomes : Outcomes) → AreAlike looks → IsOwner looks prefix owner → AreFound looks prefix address → nth looks from ≡ Some first → IsRouteOf (router_in first) prefix route
    → way.IsTraced (way.by (step_at (map forwarder_of looks) address)) from traced → AreOutcomes (steps_at (map forwarder_of looks) address) from outcomes → outcomes ≡ arrives_alone
alone law one looks prefix address from owner first route traced outcomes alike owned found at has t are =
    alone-by looks prefix address from owner first route
    (λ moves to m. law looks prefix owner first route moves to alike owned (contains-nth looks from first at) has m)
    one
    alike owned found at traced t outcomes are
