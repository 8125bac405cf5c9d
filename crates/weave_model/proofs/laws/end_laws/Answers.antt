use Rattle.weave_model.proofs.EndLemmas.{track-length, end-law}
use Rattle.weave_model.proofs.laws.end_laws.Goals as goal

pub returns-clause-end : goal.returns-clause-end
returns-clause-end c = end-law c.round_laws.ensures.front c.round_laws.ensures.farthest

pub returns-clause-left : goal.returns-clause-left
returns-clause-left c = track-length
