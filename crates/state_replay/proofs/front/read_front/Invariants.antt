use Rattle.std.proofs.Common.{◌≤◌, ◌-◌, length, ℕ, List}
use Rattle.isis_edge.specs.Told.{Took}
use Rattle.state_replay.specs.Fronts.{IsSoFar}
use Rattle.state_replay.proofs.front.read_front.Given as goal

-- what was read is the lines so far, and what is pending
abbrev pub invariant-reads : goal.invariant-reads
invariant-reads g l = record {
  so_far : (octets : List ℕ) × Took (g.I.Source.gave l.fn.input) (g.I.Source.gave l.input) octets × IsSoFar octets l.front l.lines.pending;
  short : length l.front.text ≤ 16777216;
  few : l.front.lines ≤ length l.front.text;
  later : g.I.Source.faults l.fn.input ≤ g.I.Source.faults l.input;
}

abbrev pub decreases-reads : goal.decreases-reads
decreases-reads g l = 16777217 - length l.front.text
