-- What CSNPs tell, what is taken of them, and who is swept.
use Rattle.model_network.proofs.SweepLemmas.{start-true, apply-true, apply-agreed, swept-live}
use Rattle.model_network.proofs.agreement.sweep_claim.Goals as goal

pub returns-clause-start : goal.returns-clause-start
returns-clause-start c = start-true

pub returns-clause-sent : goal.returns-clause-sent
returns-clause-sent c = apply-true

pub returns-clause-taken : goal.returns-clause-taken
returns-clause-taken c = apply-agreed

pub returns-clause-swept : goal.returns-clause-swept
returns-clause-swept c = swept-live
