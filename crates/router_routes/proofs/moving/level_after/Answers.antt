use Rattle.std.proofs.Common.{subst}
use Rattle.std.proofs.lemmas.Result.{IfOk-weaker}
use Rattle.router_routes.specs.Moved.{FitMoved, told_of}
use Rattle.router_routes.specs.Told.{told_in}
use Rattle.router_routes.proofs.MovingLemmas.{stays-alone, stays-idle, run-before, run-after}
use Rattle.router_routes.proofs.moving.level_after.Goals as goal

pub returns-in-None-clause-costs : goal.returns-in-None-clause-costs
returns-in-None-clause-costs c = stays-alone c.args.runs c.args.level.now c.args.old.now.root c.args.old.now c.in-None.is c.requires.costs

pub returns-then-not-runs-clause-costs : goal.returns-then-not-runs-clause-costs
returns-then-not-runs-clause-costs c = stays-idle c.args.runs (told_in c.args.level.now.store.now.entries) (told_of c.args.level.now) c.args.old.now.root c.args.old.now c.if-not-runs.true c.requires.costs

pub nodes_after-requires-clause-costs : goal.nodes_after-requires-clause-costs
nodes_after-requires-clause-costs c = run-before c.args.runs (told_in c.args.level.now.store.now.entries) c.args.old.now.root c.args.old.now c.if-not-runs.false c.requires.costs

pub nodes_after-requires-clause-fit : goal.nodes_after-requires-clause-fit
nodes_after-requires-clause-fit c = subst (FitMoved c.args.level.now.store.now.entries) c.in-Some.is c.requires.fit

pub returns-clause-costs : goal.returns-clause-costs
returns-clause-costs c = IfOk-weaker c.nodes_after.result _ _ (λ new are. run-after c.args.runs c.args.level.now c.in-Some.moved c.args.old.now.root _ c.if-not-runs.false c.in-Some.is are) c.nodes_after.ensures.costs
