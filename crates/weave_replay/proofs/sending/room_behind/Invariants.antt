use Rattle.std.proofs.Common.{◌≡◌, ◌+◌, length, map}
use Rattle.weave_replay.specs.Entries.{entry_of}
use Rattle.weave_replay.specs.Replays.{sent_by}
use Rattle.weave_replay.proofs.sending.room_behind.Given as goal

abbrev pub invariant-loop-left : goal.invariant-loop-left
invariant-loop-left l = l.rest + sent_by (map entry_of l.entries) ≡ l.room + sent_by (map entry_of l.left)

abbrev pub decreases-loop-left : goal.decreases-loop-left
decreases-loop-left l = length l.left
