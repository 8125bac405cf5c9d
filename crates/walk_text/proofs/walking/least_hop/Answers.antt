use Rattle.std.proofs.Common.{ap, ◌∙◌}
use Rattle.std.specs.Prelude.{slice_get}
use Rattle.route_table.specs.declared.route.Route.{Route}
use Rattle.walk_text.proofs.LookLemmas.{one-list, one-route}
use Rattle.walk_text.proofs.walking.least_hop.Goals as goal

pub returns-in-Some : goal.returns-in-Some
returns-in-Some c = λ look route e of is.
    let same = one-route c.args.router.now look c.routes.result.now c.list.result.now c.in-Some.route.now route e of c.routes.ensures c.list.ensures.same c.in-Some.ensures.0 c.in-Some.ensures.1 is in
    c.get.ensures ∙ ap (λ (r : Route). slice_get r.hops 0) same

pub returns-in-None : goal.returns-in-None
returns-in-None c = λ look route e of is. absurd (c.in-None.ensures route
    (one-list c.args.router.now look c.routes.result.now c.list.result.now route e of c.routes.ensures c.list.ensures.same is.0) is.1)
