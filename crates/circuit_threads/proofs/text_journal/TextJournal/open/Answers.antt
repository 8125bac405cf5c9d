use Rattle.isis_edge.proofs.ToldLemmas.{WrotePrefix-from_count}
use Rattle.circuit_threads.specs.JournalText.{head_text}
use Rattle.circuit_threads.proofs.text_journal.TextJournal.open.Goals as goal

pub returns-in-Err-clause-begun : goal.returns-in-Err-clause-begun
returns-in-Err-clause-begun g c = let p = c.in-Err.ensures.prefix in WrotePrefix-from_count _ _ head_text p.0 p.2
