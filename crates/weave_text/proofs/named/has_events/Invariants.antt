use Rattle.std.proofs.Common.{take}
use Rattle.std.specs.List.{AllByRecursion}
use Rattle.weave_text.specs.ReadBack.{HasEvent}
use Rattle.weave_text.proofs.named.has_events.Given as goal

abbrev pub invariant-loop-place : goal.invariant-loop-place
invariant-loop-place l = AllByRecursion (HasEvent l.script l.net.seen) (take l.place l.schedule)
