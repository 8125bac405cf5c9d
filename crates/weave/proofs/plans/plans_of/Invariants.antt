use Rattle.std.proofs.Common.{◌≡◌}
use Rattle.weave.specs.Begins.{tracks_from}
use Rattle.weave.proofs.plans.plans_of.Given as goal

abbrev pub invariant-loop-router : goal.invariant-loop-router
invariant-loop-router l = l.plans.items ≡ tracks_from 0 l.router l.journals
