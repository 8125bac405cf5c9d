use Rattle.std.proofs.Common.{take}
use Rattle.weave.specs.Counts.{AreCounted}
use Rattle.weave.proofs.counting.made_of.Given as goal

abbrev pub invariant-loop-router : goal.invariant-loop-router
invariant-loop-router l = AreCounted (take l.router l.plans) l.left l.made.items
