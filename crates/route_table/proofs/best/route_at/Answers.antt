use Rattle.std.proofs.Common.{sym, subst}
use Rattle.route_table.specs.declared.candidate.Candidate.{Candidate}
use Rattle.route_table.specs.Routes.{IsRoute}
use Rattle.route_table.specs.Order.{IsListedHop}
use Rattle.route_table.proofs.OrderLemmas.{route_of, route_is}
use Rattle.route_table.proofs.best.route_at.Goals as goal

pub returns-in-Ok-clause-route : goal.returns-in-Ok-clause-route
returns-in-Ok-clause-route c =
    let H = IsListedHop c.args.one.now c.args.two.now in
    subst (λ (x : Candidate). IsRoute H c.args.candidates.now (route_of x c.in-Ok.hops)) (sym c.index-candidates-first.is)
    (route_is H c.args.candidates.now c.args.first c.run_end-end.result c.index-candidates-first.result c.in-Ok.hops c.requires.order c.requires.cut c.requires.within c.run_end-end.ensures c.in-Ok.ensures.rising c.in-Ok.ensures.hops)
