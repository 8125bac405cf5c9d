use Rattle.std.proofs.Common.{◌≤◌, length}
use Rattle.isis_edge.proofs.ToldLemmas.{IsUnderway}
use Rattle.isis_edge.proofs.writing.write_all.Given as goal

abbrev pub invariant-loop-rest : goal.invariant-loop-rest
invariant-loop-rest g l = record {
  underway : IsUnderway l.piece l.rest (g.O.Sink.put l.fn.sink) (g.O.Sink.put l.sink);
  later : g.O.Sink.faults l.fn.sink ≤ g.O.Sink.faults l.sink;
}

abbrev pub decreases-loop-rest : goal.decreases-loop-rest
decreases-loop-rest g l = length l.rest
