use Rattle.std.proofs.Common.{◌≤◌, ◌-◌, ◌++◌, ℕ, List}
use Rattle.isis_edge.specs.Told.{Took}
use Rattle.state_replay.specs.Replays.{IsReplayed}
use Rattle.state_replay.proofs.entries.replay_lines.Given as goal

-- so many entries are replayed, and what is pending stands behind them
abbrev pub invariant-loop-done : goal.invariant-loop-done
invariant-loop-done g l = record {
  replayed : (octets : List ℕ) × Took (g.I.Source.gave l.fn.input) (g.I.Source.gave l.input) octets
      × IsReplayed l.fn.router l.router (l.fn.lines.pending ++ octets) l.lines.pending l.done;
  few : l.done ≤ l.most;
  later : g.I.Source.faults l.fn.input ≤ g.I.Source.faults l.input;
}

abbrev pub decreases-loop-done : goal.decreases-loop-done
decreases-loop-done g l = l.most - l.done
