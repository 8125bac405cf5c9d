use Rattle.std.proofs.Common.{List, refl}
use Rattle.model_router.specs.Routers.{Router}
use Rattle.route_table.specs.Ranks.{prefix_number}
use Rattle.forward_views.specs.Walked.{IsRouteOf}
use Rattle.forward_views.specs.Forwarded.{router_in}
use Rattle.walk_text.proofs.ListLemmas.{contains-nth}
use Rattle.walk_text.proofs.LookLemmas.{look-at, router-is, one-list, other-list}
use Rattle.walk_text.proofs.AlikeLemmas.{are-alike}
use Rattle.walk_text.proofs.walking.walk.Goals as goal

pub returns-in_default-clause-refused : goal.returns-in_default-clause-refused
returns-in_default-clause-refused c = λ looks are.
    let routers : List Router = c.args.network.now.seen.routers in
    let t = c.requires.tested looks are in (
      t.0,
      t.1,
      λ look route at is. c.in_default.ensures route
          (one-list c.router.result.now look c.routes.result.now c.list.result.now route (router-is routers looks are c.args.from look c.router.result.now at c.router.ensures) (are.routes_are look (contains-nth looks c.args.from look at)) c.routes.ensures c.list.ensures.same is.0) is.1,
    )

pub least_path-requires-clause-route : goal.least_path-requires-clause-route
least_path-requires-clause-route c = λ looks are.
    let l = look-at c.args.network.now.seen.routers looks are c.args.from c.router.result.now c.router.ensures in
    record {
      look = l.0;
      at = l.1;
      route = c.in-Some.route.now;
      has = (other-list c.router.result.now l.0 c.routes.result.now c.list.result.now c.in-Some.route.now l.2 (are.routes_are l.0 (contains-nth looks c.args.from l.0 l.1)) c.routes.ensures c.list.ensures.same c.in-Some.ensures.0, c.in-Some.ensures.1);
    }

pub returns-clause-ok : goal.returns-clause-ok
returns-clause-ok c = λ looks are.
    let routers : List Router = c.args.network.now.seen.routers in
    let l = look-at routers looks are c.args.from c.router.result.now c.router.ensures in
    let t = c.requires.tested looks are in
    let alike = are-alike routers looks are c.requires.reached c.facts.ensures.systems t.0 in
    let e = c.in_ok-routers.ensures looks are in
    let there = contains-nth looks c.args.from l.0 l.1 in
    let has : IsRouteOf (router_in l.0) (prefix_number c.args.prefix) c.in-Some.route.now = (other-list c.router.result.now l.0 c.routes.result.now c.list.result.now c.in-Some.route.now l.2 (are.routes_are l.0 there) c.routes.ensures c.list.ensures.same c.in-Some.ensures.0, c.in-Some.ensures.1) in
    record {
      tested = t.0;
      owner = e.owner;
      owned = e.owned;
      first = l.0;
      at = l.1;
      route = c.in-Some.route.now;
      has = has;
      cost = refl;
      arrives = λ moves to m. c.forward_law.ensures looks (prefix_number c.args.prefix) e.owner l.0 c.in-Some.route.now moves to alike e.owned there has m;
      last = e.last;
      path = e.path;
      ends = e.ends;
    }
