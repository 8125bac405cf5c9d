use Rattle.std.proofs.Common.{◌≤◌, ◌++◌}
use Rattle.isis_edge.proofs.ToldLemmas.{IsUnderway}
use Rattle.isis_edge.proofs.text.write_text.Given as goal

-- what was written, what waits and what is to come are the whole
abbrev pub invariant-pieces : goal.invariant-pieces
invariant-pieces g l = record {
  underway : IsUnderway (g.T.Text.rest l.fn.text) (l.page ++ g.T.Text.rest l.text) (g.O.Sink.put l.fn.output) (g.O.Sink.put l.output);
  later : g.O.Sink.faults l.fn.output ≤ g.O.Sink.faults l.output;
}

abbrev pub decreases-pieces : goal.decreases-pieces
decreases-pieces g l = g.T.Text.calls l.text
