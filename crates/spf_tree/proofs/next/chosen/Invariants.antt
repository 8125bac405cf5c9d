use Rattle.std.proofs.Common.{take}
use Rattle.spf_tree.specs.Exploring.{AreChosen}
use Rattle.spf_tree.proofs.next.chosen.Given as goal

abbrev pub invariant-loop-place : goal.invariant-loop-place
invariant-loop-place l = AreChosen l.indexed.rows l.root l.labels l.target (take l.place l.plain) l.hops.items
