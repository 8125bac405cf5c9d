use Rattle.weave_replay.proofs.HistoryLemmas.{history-good}
use Rattle.weave_replay.proofs.laws.history_law.Goals as goal

pub returns : goal.returns
returns c = history-good c.reading_law.ensures
