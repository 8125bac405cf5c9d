use Rattle.std.proofs.Common.{◌-◌, length}
use Rattle.trace_core.proofs.WayLemmas.{IsFollowed}
use Rattle.trace_core.proofs.tracing.trace.Given as goal

abbrev pub invariant-loop-fault : goal.invariant-loop-fault
invariant-loop-fault g l = IsFollowed (g.P.Places.is l.among) (g.P.Places.many l.among) l.fn.from l.places.items l.place

abbrev pub decreases-loop-fault : goal.decreases-loop-fault
decreases-loop-fault g l = g.P.Places.many l.among - length l.places.items
