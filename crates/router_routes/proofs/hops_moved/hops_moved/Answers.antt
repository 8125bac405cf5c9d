use Rattle.router_routes.proofs.ComingLemmas.{costs-apart}
use Rattle.router_routes.proofs.hops_moved.hops_moved.Goals as goal

pub returns-in-Ok-apart-clause-moved : goal.returns-in-Ok-apart-clause-moved
returns-in-Ok-apart-clause-moved c =
    costs-apart c.args.old.now.distances c.args.new.now.distances c.distances-before.result.now c.distances-after.result.now c.in_order-moved.result.items c.distances-before.ensures.same c.distances-after.ensures.same
    (λ node out. c.in-Ok.ensures node (λ there. out (c.in_order-moved.ensures.all node there)))

pub returns-in-Ok-apart-clause-apart : goal.returns-in-Ok-apart-clause-apart
returns-in-Ok-apart-clause-apart c = record { each = c.in-Ok-apart.ensures }
