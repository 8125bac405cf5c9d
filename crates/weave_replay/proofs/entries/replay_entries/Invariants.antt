use Rattle.std.proofs.Common.{◌≡◌, map, take}
use Rattle.router_core.specs.Givens.{given}
use Rattle.weave_model.specs.Entries.{replay}
use Rattle.weave_model.specs.Faults.{AreGood}
use Rattle.weave_replay.specs.Entries.{entry_of}
use Rattle.weave_replay.proofs.entries.replay_entries.Given as goal

-- the entries so far are good, and the router is behind them
abbrev pub invariant-loop-place : goal.invariant-loop-place
invariant-loop-place l = record {
  good : AreGood given l.fn.router (take l.place (map entry_of l.entries));
  state : l.router ≡ replay given l.fn.router (take l.place (map entry_of l.entries));
}
