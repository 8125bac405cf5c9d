use Rattle.std.proofs.Common.{◌≡◌, ◌+◌, length}
use Rattle.weave_replay.specs.Replays.{sent_in}
use Rattle.weave_replay.proofs.sending.send_too_many.Given as goal

abbrev pub invariant-loop-left : goal.invariant-loop-left
invariant-loop-left l = l.room + sent_in l.journals ≡ 262144 + sent_in l.left

abbrev pub decreases-loop-left : goal.decreases-loop-left
decreases-loop-left l = length l.left
