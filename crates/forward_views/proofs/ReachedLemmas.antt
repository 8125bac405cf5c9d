-- Where moves lead among routers that are alike.
use Rattle.std.proofs.Common.{◌≢◌, ◌∙◌, ℕ, List, [], ◌∷◌, map, sym, ap, subst, arith}
use Rattle.std.specs.List.{Contains}
use Rattle.std.proofs.lemmas.List.{length-map}
use Rattle.lsp_view.specs.Views.{rows_in, overloaded_in}
use Rattle.route_table.specs.declared.route.Route.{Route}
use Rattle.route_table.specs.Ranks.{rank_number}
use Rattle.router_routes.specs.Outlooks.{graph_in}
use Rattle.forward_views.specs.Walked.{RouterOf, IsRouteOf, IsMove, AreMoves}
use Rattle.forward_views.proofs.RouteLemmas.{routes_fall}
use Rattle.forward_views.proofs.WalkedLemmas.{walks, goes_on}
use Rattle.forward_views.specs.Looks.{Look, root_of, told_of, AreAlike, IsOwner}
use Rattle.forward_views.specs.Forwarded.{router_in, IsNext, IsReached}
use Rattle.forward_views.proofs.ListLemmas.{in_map, of_map}
use Rattle.forward_views.proofs.LookLemmas.{root-system, one-route}
use Rattle.forward_views.proofs.AgreeLemmas.{agreed, hops}

arrives : (routers : List RouterOf) (prefix : ℕ) (from to : RouterOf) (moves : List (RouterOf × ℕ)) → Contains routers from → AreMoves routers prefix from moves to → Contains routers to
arrives routers prefix from to [] there are = subst (λ (r : RouterOf). Contains routers r) (sym are) there
arrives routers prefix from to (move ∷ moves) there are = arrives routers prefix move.0 to moves are.0.there are.1

module _ (looks : List Look) (alike : AreAlike looks) (prefix : ℕ) (owner : Look) (is : IsOwner looks prefix owner) where
  abbrev routers : List RouterOf
  routers = map router_in looks

  onward : (at : Look) (last : Route) (hop : ℕ) → Contains looks at → at ≢ owner → IsRouteOf (router_in at) prefix last → Contains last.hops hop
      → (next : Look) × IsNext looks at hop next × ((cost : ℕ) × IsMove routers prefix (router_in at) (router_in next) cost)
  unfolding graph_in
  onward at last hop there other has among =
      let n = hops looks alike at last hop there has.0 among in
      let next = n.0 in
      let a = agreed looks alike prefix owner is in
      let in_at = in_map router_in looks at there in
      let in_next = in_map router_in looks next n.1.0 in
      let leads = subst (λ (h : ℕ). Contains last.hops h) (sym n.1.1) among in
      let f = routes_fall (rows_in (told_of owner)) (overloaded_in (told_of owner)) prefix (root_of owner) is.own.0.cost (router_in at).one (router_in at).two (router_in next).one (router_in next).two (router_in at).candidates (router_in next).candidates last next.routes
      (a.rows_are (router_in at) in_at) (a.rows_are (router_in next) in_next) (a.at (router_in at) in_at) (a.at (router_in next) in_next) (λ e. other (alike.one_each at owner there is.there e))
      ((a.routes_are (router_in at) in_at).each last has.0) has.1 (a.routes_are (router_in next) in_next) leads in
      (next, n.1, (f.move, record { route = last; is = has; leads = leads; there = in_next; moved = f.moved }))

  pub reached : (from : Look) (route : Route) (moves : List (RouterOf × ℕ)) (to : RouterOf) → Contains looks from → IsRouteOf (router_in from) prefix route → AreMoves routers prefix (router_in from) moves to → IsReached looks prefix owner route moves to
  unfolding graph_in
  reached from route moves to there of_route are =
      let a = agreed looks alike prefix owner is in
      let in_from = in_map router_in looks from there in
      let w = walks (rows_in (told_of owner)) (overloaded_in (told_of owner)) prefix (root_of owner) is.own.0.cost routers (router_in from) to route moves a in_from of_route are in
      let m = of_map router_in looks to (arrives routers prefix (router_in from) to moves in_from are) in
      let has = subst (λ (r : RouterOf). IsRouteOf r prefix w.0) (sym m.2) w.1 in
      let few = w.3 in
      record {
        at = m.0;
        there = m.1;
        is = sym m.2;
        last = w.0;
        has = w.1;
        sum = w.2;
        few = omega (arith, few, length-map looks router_in);
        home = λ e. ap (λ (r : Route). rank_number r.rank) (one-route looks alike prefix owner is m.0 w.0 e has.0 has.1) ∙ is.own.3;
        goes_on = λ other. goes_on (rows_in (told_of owner)) (overloaded_in (told_of owner)) prefix (root_of owner) is.own.0.cost routers (router_in m.0) w.0 a (in_map router_in looks m.0 m.1) has (λ e. other (alike.one_each m.0 owner m.1 is.there e)) (root-system owner);
        onward = λ other hop among.
            let o = onward m.0 w.0 hop m.1 other has among in
            (o.0, o.1, (o.2.0, subst (λ (r : RouterOf). IsMove routers prefix r (router_in o.0) o.2.0) m.2 o.2.1));
      }
