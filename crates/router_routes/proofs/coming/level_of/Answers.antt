use Rattle.std.proofs.Common.{subst}
use Rattle.router_routes.specs.Moved.{AreRowsMoved}
use Rattle.router_routes.proofs.ComingLemmas.{level-stays, level-with}
use Rattle.router_routes.proofs.coming.level_of.Goals as goal

pub returns-in-None-clause-hops : goal.returns-in-None-clause-hops
returns-in-None-clause-hops c = level-stays c.args.old.now c.args.known.now c.requires.known

pub returns-in-Ok-clause-hops : goal.returns-in-Ok-clause-hops
returns-in-Ok-clause-hops c =
    level-with c.args.old.now c.in-Some.new c.args.known.now c.in-Ok.hops.table c.in-Ok.hops.apart.items c.in-Ok.hops.moved.items c.level_with.result
    c.level_with.ensures.costs c.level_with.ensures.hops c.level_with.ensures.apart c.level_with.ensures.moved c.in-Ok.ensures.right c.in-Ok.ensures.apart c.in-Ok.ensures.moved (subst (AreRowsMoved c.args.old.now) c.in-Some.is c.requires.rows).counts
