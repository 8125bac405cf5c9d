use Rattle.std.proofs.Common.{arith}
use Rattle.circuit_threads.specs.LineRests.{rest_of}
use Rattle.circuit_threads.proofs.ToldLemmas.{underway-more}
use Rattle.circuit_threads.proofs.text_journal.TextJournalJournal.append.Goals as goal

pub loop-rest-preserved : goal.loop-rest-preserved
loop-rest-preserved g c = record {
  underway = underway-more _ c.loop-rest.rest.now (rest_of c.fill.new.self) _ _ _ c.in-Some.count c.loop-rest.invariant.underway c.in-Some.ensures.octets.2;
  later = omega (arith, c.loop-rest.invariant.later, c.write.ensures.later);
}
