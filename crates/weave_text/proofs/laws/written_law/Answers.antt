use Rattle.weave_text.proofs.ReadBackLemmas.{written-read, written-start, written-events}
use Rattle.weave_text.proofs.laws.written_law.Goals as goal

pub returns-clause-read : goal.returns-clause-read
returns-clause-read c = written-read

pub returns-clause-start : goal.returns-clause-start
returns-clause-start c = written-start

pub returns-clause-events : goal.returns-clause-events
returns-clause-events c = written-events
