use Rattle.std.proofs.Common.{◌≡◌, length, take}
use Rattle.weave_replay.specs.Outcomes.{AreCounts, AreBehind}
use Rattle.weave_replay.specs.Replays.{AreFaultless}
use Rattle.weave_replay.proofs.replaying.replay_all.Given as goal

-- the journals so far have no fault, are counted, and the routers are behind them
abbrev pub invariant-loop-place : goal.invariant-loop-place
invariant-loop-place l = record {
  routers : length l.routers ≡ length l.fn.routers;
  size : length l.counts ≡ length l.fn.counts;
  counted : AreCounts l.counts (take l.place l.journals);
  behind : AreBehind l.fn.routers l.routers (take l.place l.journals);
  faultless : AreFaultless l.fn.routers (take l.place l.journals);
}
