-- What is kept of a whole network, and the claim that follows.
use Rattle.model_network.proofs.KeptLemmas.{fresh-kept, apply-kept, kept-claim, start-alone}
use Rattle.model_network.proofs.laws.network_keeps.Goals as goal

pub returns-clause-start : goal.returns-clause-start
returns-clause-start c = fresh-kept

pub returns-clause-event : goal.returns-clause-event
returns-clause-event c = apply-kept

pub returns-clause-claim : goal.returns-clause-claim
returns-clause-claim c = kept-claim

pub returns-clause-alone : goal.returns-clause-alone
returns-clause-alone c = start-alone
