-- What is kept of a network in its run, and what is claimed.
use Rattle.network_lab.proofs.ReachedLemmas.{apply-reached}
use Rattle.network_lab.proofs.AlongLemmas.{claimed-along}
use Rattle.network_lab.proofs.laws.run_laws.Goals as goal

pub returns-clause-event : goal.returns-clause-event
returns-clause-event c = apply-reached

pub returns-clause-claimed : goal.returns-clause-claimed
returns-clause-claimed c = claimed-along
