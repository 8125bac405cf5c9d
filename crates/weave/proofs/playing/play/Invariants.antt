use Rattle.std.proofs.Common.{drop}
use Rattle.weave.specs.Plays.{PlaysOn}
use Rattle.weave.proofs.playing.play.Given as goal

abbrev pub invariant-loop-place : goal.invariant-loop-place
invariant-loop-place l = PlaysOn l.fn.schedule l.turns l.fn.plans l.fn.network l.schedule (drop l.place l.turns) l.plans l.network
