use Rattle.std.proofs.Common.{◌-◌}
use Rattle.trace_core.proofs.ReachLemmas.{IsReaching}
use Rattle.trace_core.proofs.reaching.reached.Given as goal

-- those spread from so far
abbrev pub invariant-loop-done : goal.invariant-loop-done
invariant-loop-done g l = IsReaching (g.W.Ways.ways l.among) (g.W.Ways.many l.among) l.fn.from l.found.items l.done

abbrev pub decreases-loop-done : goal.decreases-loop-done
decreases-loop-done g l = g.W.Ways.many l.among - l.done
