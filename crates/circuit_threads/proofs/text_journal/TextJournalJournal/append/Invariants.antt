use Rattle.std.proofs.Common.{◌≡◌, ◌≤◌, ◌++◌, [], length}
use Rattle.isis_edge.proofs.ToldLemmas.{IsUnderway}
use Rattle.circuit_threads.specs.JournalText.{entry_text}
use Rattle.circuit_threads.specs.LineRests.{rest_of}
use Rattle.circuit_threads.proofs.text_journal.TextJournalJournal.append.Given as goal

abbrev pub invariant-pages : goal.invariant-pages
invariant-pages g l = record {
  page : l.page ≡ [];
  underway : IsUnderway (entry_text l.entry) (rest_of l.line) (g.O.Sink.put l.fn.self.sink) (g.O.Sink.put l.self.sink);
  later : g.O.Sink.faults l.fn.self.sink ≤ g.O.Sink.faults l.self.sink;
}

abbrev pub decreases-pages : goal.decreases-pages
decreases-pages g l = length (rest_of l.line)

abbrev pub invariant-loop-rest : goal.invariant-loop-rest
invariant-loop-rest g l = record {
  underway : IsUnderway (entry_text l.entry) (l.rest ++ rest_of l.line) (g.O.Sink.put l.fn.self.sink) (g.O.Sink.put l.self.sink);
  later : g.O.Sink.faults l.fn.self.sink ≤ g.O.Sink.faults l.self.sink;
}

abbrev pub decreases-loop-rest : goal.decreases-loop-rest
decreases-loop-rest g l = length l.rest
