use Rattle.journal_text.proofs.WrittenLemmas.{journal-said}
use Rattle.journal_text.proofs.laws.journal_law.Goals as goal

pub returns : goal.returns
returns c = journal-said
