use Rattle.route_table.specs.Order.{IsListedHop}
use Rattle.route_table.proofs.OrderLemmas.{have_more, have_all}
use Rattle.route_table.proofs.best.best_of.Goals as goal

pub loop-first-preserved : goal.loop-first-preserved
loop-first-preserved c =
    rw c.in-Ok-push.ensures.items
    (have_more (IsListedHop c.args.one.now c.args.two.now) c.args.candidates.now c.loop-first.routes.items c.in-Ok-route_at.route c.loop-first.first c.prefix_end-first.result c.requires c.loop-first.invariant c.loop-first-test.true c.prefix_end-first.ensures c.in-Ok-route_at.ensures.route c.in-Ok-route_at.ensures.prefix)

pub returns : goal.returns
returns c = have_all (IsListedHop c.args.one.now c.args.two.now) c.args.candidates.now c.loop-first.routes.items c.loop-first.first c.loop-first-test.false c.loop-first.invariant
