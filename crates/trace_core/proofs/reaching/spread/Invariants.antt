use Rattle.trace_core.proofs.ReachLemmas.{IsSpreadSo}
use Rattle.trace_core.proofs.reaching.spread.Given as goal

-- by the ways so far
abbrev pub invariant-loop-number : goal.invariant-loop-number
invariant-loop-number g l = IsSpreadSo (g.W.Ways.ways l.among) (g.W.Ways.many l.among) l.place l.number l.fn.found.items l.found.items
