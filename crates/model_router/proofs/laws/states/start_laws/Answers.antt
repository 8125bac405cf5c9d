-- What holds of every state holds at the start.
use Rattle.model_router.proofs.StartLemmas.{start-sorted, start-good, start-telling, start-follows, start-bonds, start-idle}
use Rattle.model_router.proofs.laws.states.start_laws.Goals as goal

pub returns-clause-sorted : goal.returns-clause-sorted
returns-clause-sorted c = start-sorted

pub returns-clause-good : goal.returns-clause-good
returns-clause-good c = start-good

pub returns-clause-telling : goal.returns-clause-telling
returns-clause-telling c = start-telling

pub returns-clause-follows : goal.returns-clause-follows
returns-clause-follows c = start-follows

pub returns-clause-bonds : goal.returns-clause-bonds
returns-clause-bonds c = start-bonds

pub returns-clause-idle : goal.returns-clause-idle
returns-clause-idle c = start-idle
