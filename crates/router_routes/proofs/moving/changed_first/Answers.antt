use Rattle.router_routes.proofs.MovingLemmas.{moved-by}
use Rattle.router_routes.proofs.moving.changed_first.Goals as goal

pub returns-in-Ok-clause-moved : goal.returns-in-Ok-clause-moved
returns-in-Ok-clause-moved c =
    moved-by c.args.old.now c.in-Ok.new c.args.removed.now c.args.added.now c.requires.apart c.requires.some c.in-Ok.ensures.changed c.in-Ok.ensures.count
