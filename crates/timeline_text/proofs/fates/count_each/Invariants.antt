use Rattle.timeline_text.proofs.CountLemmas.{IsCountedSo}
use Rattle.timeline_text.proofs.fates.count_each.Given as goal

-- those of the routers so far
abbrev pub invariant-loop-place : goal.invariant-loop-place
invariant-loop-place l = IsCountedSo l.forwarders l.address l.except l.place l.counts
