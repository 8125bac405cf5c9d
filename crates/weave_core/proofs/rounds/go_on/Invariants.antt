use Rattle.std.proofs.Common.{◌≡◌, ◌-◌, length, drop}
use Rattle.weave_core.specs.Scenes.{as_far}
use Rattle.weave_core.proofs.rounds.go_on.Given as goal

abbrev pub invariant-loop-made : goal.invariant-loop-made
invariant-loop-made l = as_far l.party (drop l.made l.moves) l.medium ≡ as_far l.party (drop l.fn.made l.moves) l.fn.medium

abbrev pub decreases-loop-made : goal.decreases-loop-made
decreases-loop-made l = length l.moves - l.made
