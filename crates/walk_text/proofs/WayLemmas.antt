-- A walk along the least next hops, as it goes.
use Rattle.std.proofs.Common.{◌≡◌, ◌≢◌, ℕ, suc, ◌+◌, ◌-◌, ◌<◌, ◌==◌, Bool, true, false, List, [], ◌∷◌, ◌++◌, map, length, get_or, Some, None, refl, sym, ap, ◌∙◌, subst, arith}
use Rattle.std.specs.Prelude.{slice_get}
use Rattle.std.specs.List.{Contains}
use Rattle.std.specs.List.Sorted.{IsStrictlyIncreasing}
use Rattle.std.proofs.lemmas.Bool.Decides.{nat_tests}
use Rattle.std.proofs.lemmas.List.{get_or_default}
use Rattle.isis_base.specs.declared.identifiers.SystemId.{SystemId}
use Rattle.model_router.specs.Places.{nth}
use Rattle.spf_tree.specs.Nodes.{node_number, system_node}
use Rattle.spf_tree.proofs.PlaceLemmas.{nodes_rise}
use Rattle.route_table.specs.declared.rank.Rank.{Rank}
use Rattle.route_table.specs.declared.rank.Rank.TheVariants.{Own, One, Two, OneDown, Default}
use Rattle.route_table.specs.declared.route.Route.{Route}
use Rattle.route_table.specs.Ranks.{rank_number}
use Rattle.route_table.specs.Routes.{IsHopBy}
use Rattle.router_routes.specs.Outlooks.{graph_in}
use Rattle.forward_views.specs.Walked.{RouterOf, IsRouteOf, IsMove, AreMoves}
use Rattle.forward_views.specs.Looks.{Look, root_of, AreAlike, IsOwner}
use Rattle.forward_views.specs.Forwarded.{router_in, IsReached}
use Rattle.walk_text.specs.Paths.{IsLeastHop, IsLeastMove, IsLeastPath, Arrives}
use Rattle.model_router.specs.Routers.{Router}
use Rattle.router_core.specs.Reached as core
use Rattle.network_lab.specs.LabNets.{AreDistinct, systems_of}
use Rattle.network_lab.proofs.PlaceLemmas.{some-same}
use Rattle.walk_text.specs.Tests.{AreLooks, AreTested, owner_count}
use Rattle.walk_text.specs.OnWay.{HasRouteAt, IsOnWay, EndsAtOwner}
use Rattle.walk_text.proofs.ListLemmas.{contains-nth}
use Rattle.walk_text.proofs.AlikeLemmas.{are-alike}
use Rattle.walk_text.proofs.OwnerLemmas.{the-owner}

-- ---- one more move

path-more : (looks : List Look) (prefix from mid to : ℕ) (places : List ℕ) → IsLeastPath looks prefix from places mid → IsLeastMove looks prefix mid to → IsLeastPath looks prefix from (places ++ (to ∷ [])) to
path-more looks prefix from mid to [] p m = (subst (λ (n : ℕ). IsLeastMove looks prefix n to) p m, refl)
path-more looks prefix from mid to (next ∷ places) p m = (p.0, path-more looks prefix next mid to places p.1 m)

moves-more : (routers : List RouterOf) (prefix : ℕ) (from mid to : RouterOf) (cost : ℕ) (moves : List (RouterOf × ℕ)) → AreMoves routers prefix from moves mid → IsMove routers prefix mid to cost → AreMoves routers prefix from (moves ++ ((to, cost) ∷ [])) to
moves-more routers prefix from mid to cost [] p m = (subst (λ (r : RouterOf). IsMove routers prefix r to cost) p m, refl)
moves-more routers prefix from mid to cost (move ∷ moves) p m = (p.0, moves-more routers prefix move.0 mid to cost moves p.1 m)

one-more : {X Y : Type 0} (xs : List X) (ys : List Y) (x : X) (y : Y) → length xs ≡ length ys → length (xs ++ (x ∷ [])) ≡ length (ys ++ (y ∷ []))
one-more [] [] x y e = refl
one-more [] (z ∷ ys) x y e = absurd (omega (arith, e))
one-more (z ∷ xs) [] x y e = absurd (omega (arith, e))
one-more (z ∷ xs) (w ∷ ys) x y e = ap suc (one-more xs ys x y (omega (arith, e)))

-- ---- next hops

-- one's own route has none
pub no-hop : (looks : List Look) (look : Look) (route : Route) (hop : ℕ) → AreAlike looks → Contains looks look → Contains look.routes route → rank_number route.rank ≡ 0 → Contains route.hops hop → ⊥
no-hop looks look route hop alike there has own h =
    let of = (alike.routes_are look there).each route has in
    let c = (of.hops hop).0 h in
    none c.0.rank _ (c.2.1 ∙ own) c.3
  where
    none : (rank : Rank) (origin : ℕ) → rank_number rank ≡ 0 → IsHopBy (router_in look).one (router_in look).two rank origin hop → ⊥
    none Own o e k = k
    none One o e k = omega (arith, e)
    none Two o e k = omega (arith, e)
    none OneDown o e k = omega (arith, e)
    none Default o e k = omega (arith, e)

first-hop : (hops : List ℕ) (hop : ℕ) → Some hop ≡ slice_get hops 0 → (0 < length hops) × (get_or hops 0 hop ≡ hop)
first-hop [] hop e = absurd (cc)
first-hop (x ∷ hops) hop e = (omega arith, sym (some e))
  where
    some : Some hop ≡ Some x → hop ≡ x
    some k = cc

no-first : (hops : List ℕ) → None ≡ slice_get hops 0 → (hop : ℕ) → Contains hops hop → ⊥
no-first [] e hop h = let l = h.1 in omega (arith, l)
no-first (x ∷ hops) e hop h = cc

least-hop : (looks : List Look) (look : Look) (route : Route) (hop : ℕ) → AreAlike looks → Contains looks look → Contains look.routes route → Some hop ≡ slice_get route.hops 0 → IsLeastHop route hop
least-hop looks look route hop alike there has e = record {
  there = (0, f.0, f.1);
  least = λ other h.
      let up = nodes_rise route.hops rising 0 h.0 (omega arith) h.1 in
      let x : get_or route.hops 0 0 ≡ hop = get_or_default route.hops 0 0 hop f.0 ∙ f.1 in
      let y : get_or route.hops h.0 0 ≡ other = get_or_default route.hops h.0 0 other h.1 ∙ h.2 in
      omega (arith, up, x, y);
}
  where
    f : (0 < length route.hops) × (get_or route.hops 0 hop ≡ hop)
    f = first-hop route.hops hop e

    rising : IsStrictlyIncreasing route.hops
    rising = ((alike.routes_are look there).each route has).rising

-- ---- where a walk stands

same-router : (looks : List Look) (a b : Look) → AreAlike looks → Contains looks a → Contains looks b → router_in a ≡ router_in b → a ≡ b
unfolding graph_in
same-router looks a b alike h k e = alike.one_each a b h k (ap (λ (r : RouterOf). root-in r) e)
  where
    root-in : RouterOf → ℕ
    root-in r = node_number r.one.root

pub begins : (looks : List Look) (prefix from : ℕ) (look : Look) → nth looks from ≡ Some look → IsOnWay looks prefix from [] from
begins looks prefix from look e = record {
  first = look;
  first_at = e;
  here = look;
  here_at = e;
  moves = [];
  are = refl;
  many = refl;
  path = refl;
}

-- what the laws say of where it stands
pub stands : (looks : List Look) (prefix from place : ℕ) (owner : Look) (route : Route) (places : List ℕ) (w : IsOnWay looks prefix from places place) → AreAlike looks → Arrives looks prefix owner w.first route
    → (last : Route) × IsRouteOf (router_in w.here) prefix last × (length places < length looks) × (w.here ≡ owner → rank_number last.rank ≡ 0) × (w.here ≢ owner → (hop : ℕ) × Contains last.hops hop)
    × (w.here ≢ owner → (hop : ℕ) → Contains last.hops hop → (next : Look) × Contains looks next × (root_of next ≡ hop) × ((cost : ℕ) × IsMove (map router_in looks) prefix (router_in w.here) (router_in next) cost))
stands looks prefix from place owner route places w alike arrives =
    let r = arrives w.moves (router_in w.here) w.are in
    let same : w.here ≡ r.at = same-router looks w.here r.at alike (contains-nth looks place w.here w.here_at) r.there r.is in (
      r.last,
      r.has,
      (let few = r.few in let many = w.many in omega (arith, few, many)),
      (λ e. r.home (sym same ∙ e)),
      (λ n. r.goes_on (λ e. n (same ∙ e))),
      (λ n hop h. let o = r.onward (λ e. n (same ∙ e)) hop h in (o.0, o.1.0, o.1.1, o.2)),
    )

pub goes : (looks : List Look) (prefix from place to : ℕ) (owner next : Look) (route : Route) (places : List ℕ) (system : SystemId) (w : IsOnWay looks prefix from places place) → AreAlike looks → Arrives looks prefix owner w.first route
    → ((last : Route) → IsRouteOf (router_in w.here) prefix last → Some (system_node system) ≡ slice_get last.hops 0)
    → nth looks to ≡ Some next → root_of next ≡ system_node system
    → IsOnWay looks prefix from (places ++ (to ∷ [])) to
goes looks prefix from place to owner next route places system w alike arrives hops at root =
    let there = contains-nth looks place w.here w.here_at in
    let s = stands looks prefix from place owner route places w alike arrives in
    let hop : ℕ = system_node system in
    let first = hops s.0 s.1 in
    let least = least-hop looks w.here s.0 hop alike there s.1.0 first in
    let off : w.here ≢ owner = λ e. no-hop looks w.here s.0 hop alike there s.1.0 (s.3 e) least.there in
    let on = s.5 off hop least.there in
    let same : on.0 ≡ next = alike.one_each on.0 next on.1 (contains-nth looks to next at) (on.2 ∙ sym root) in
    let move = subst (λ (l : Look). IsMove (map router_in looks) prefix (router_in w.here) (router_in l) on.3.0) same on.3.1 in
    record {
      first = w.first;
      first_at = w.first_at;
      here = next;
      here_at = at;
      moves = w.moves ++ ((router_in next, on.3.0) ∷ []);
      are = moves-more (map router_in looks) prefix (router_in w.first) (router_in w.here) (router_in next) on.3.0 w.moves w.are move;
      many = one-more w.moves places (router_in next, on.3.0) to w.many;
      path = path-more looks prefix from place to places w.path (record {
        here = w.here;
        next = next;
        from_is = w.here_at;
        to_is = at;
        route = s.0;
        has = s.1;
        leads = subst (IsLeastHop s.0) (sym root) least;
      });
    }

-- where there is no next hop the owner stands
pub arrives-home : (looks : List Look) (prefix from place : ℕ) (owner : Look) (route : Route) (places : List ℕ) (w : IsOnWay looks prefix from places place) → AreAlike looks → IsOwner looks prefix owner → Arrives looks prefix owner w.first route
    → ((last : Route) → IsRouteOf (router_in w.here) prefix last → None ≡ slice_get last.hops 0)
    → EndsAtOwner looks prefix from places
arrives-home looks prefix from place owner route places w alike owned arrives hops =
    let s = stands looks prefix from place owner route places w alike arrives in
    by (λ off. let hop = s.4 off in no-first s.0.hops (hops s.0 s.1) hop.0 hop.1) (root_of w.here == root_of owner) refl
  where
    there : Contains looks w.here
    there = contains-nth looks place w.here w.here_at

    by : (w.here ≢ owner → ⊥) → (t : Bool) → (root_of w.here == root_of owner) ≡ t → EndsAtOwner looks prefix from places
    by off true t =
        let roots : root_of w.here ≡ root_of owner = grind (arith, nat_tests, t) in
        let same : w.here ≡ owner = alike.one_each w.here owner there owned.there roots in
        record { owner = owner; owned = owned; last = place; path = w.path; ends = w.here_at ∙ ap Some same }
    by far false t =
        let off : w.here ≢ owner = λ e. (let roots : root_of w.here ≡ root_of owner = ap root_of e in absurd (grind (arith, nat_tests, t, roots))) in
        absurd (far off)

-- ---- with the law

abbrev pub Law : Type 0
Law = (looks : List Look) (prefix : ℕ) (owner from : Look) (route : Route) (moves : List (RouterOf × ℕ)) (to : RouterOf)
    → AreAlike looks → IsOwner looks prefix owner → Contains looks from → IsRouteOf (router_in from) prefix route → AreMoves (map router_in looks) prefix (router_in from) moves to → IsReached looks prefix owner route moves to

-- what a walk rests on, wherever it stands
pub record Ready (looks : List Look) (prefix from : ℕ) (places : List ℕ) (place : ℕ) (w : IsOnWay looks prefix from places place) : Type 0 where
  pub alike : AreAlike looks
  pub owner : Look
  pub owned : IsOwner looks prefix owner
  pub route : Route
  pub arrives : Arrives looks prefix owner w.first route

pub ready : Law → (routers : List Router) (looks : List Look) → AreLooks routers looks → ((i : ℕ) (r : Router) → nth routers i ≡ Some r → core.IsReached r) → AreDistinct (systems_of routers)
    → (prefix from place : ℕ) (places : List ℕ) → AreTested looks → owner_count prefix looks ≡ 1 → HasRouteAt looks prefix from → (w : IsOnWay looks prefix from places place) → Ready looks prefix from places place w
ready law routers looks are reached distinct prefix from place places tested one route w = record {
  alike = alike;
  owner = o.0;
  owned = o.1;
  route = route.route;
  arrives = λ moves to m. law looks prefix o.0 w.first route.route moves to alike o.1 (contains-nth looks from w.first w.first_at)
      (subst (λ (l : Look). IsRouteOf (router_in l) prefix route.route) (some-same route.look w.first (sym route.at ∙ w.first_at)) route.has) m;
}
  where
    alike : AreAlike looks
    alike = are-alike routers looks are reached distinct tested

    o : (owner : Look) × IsOwner looks prefix owner
    o = the-owner looks prefix one

-- the router of the next hop is there
pub next-there : (looks : List Look) (prefix from place : ℕ) (places : List ℕ) (system : SystemId) (w : IsOnWay looks prefix from places place) → Ready looks prefix from places place w
    → ((last : Route) → IsRouteOf (router_in w.here) prefix last → Some (system_node system) ≡ slice_get last.hops 0)
    → (next : Look) × Contains looks next × (root_of next ≡ system_node system)
next-there looks prefix from place places system w r hops =
    let there = contains-nth looks place w.here w.here_at in
    let s = stands looks prefix from place r.owner r.route places w r.alike r.arrives in
    let hop : ℕ = system_node system in
    let least = least-hop looks w.here s.0 hop r.alike there s.1.0 (hops s.0 s.1) in
    let on = s.5 (λ e. no-hop looks w.here s.0 hop r.alike there s.1.0 (s.3 e) least.there) hop least.there in
    (on.0, on.1, on.2)

pub few-places : (looks : List Look) (prefix from place : ℕ) (places : List ℕ) (w : IsOnWay looks prefix from places place) → Ready looks prefix from places place w → length places < length looks
few-places looks prefix from place places w r = (stands looks prefix from place r.owner r.route places w r.alike r.arrives).2

pub less-left : (n a b : ℕ) → b ≡ a + 1 → a < n → n - b < n - a
less-left n a b e h = omega (arith, e, h)
