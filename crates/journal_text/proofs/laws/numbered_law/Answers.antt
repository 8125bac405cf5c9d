use Rattle.journal_text.proofs.NumberedLemmas.{history-numbered}
use Rattle.journal_text.proofs.laws.numbered_law.Goals as goal

pub returns : goal.returns
returns c = history-numbered
