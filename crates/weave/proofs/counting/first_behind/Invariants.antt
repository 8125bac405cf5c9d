use Rattle.std.proofs.Common.{take}
use Rattle.weave.specs.Counts.{AreAhead, AreAllMade}
use Rattle.weave.proofs.counting.first_behind.Given as goal

abbrev pub invariant-loop-place : goal.invariant-loop-place
invariant-loop-place l = record {
  ahead : AreAhead l.fn.made (take l.place l.journals) l.made;
  all : AreAllMade l.fn.made l.journals l.place;
}
