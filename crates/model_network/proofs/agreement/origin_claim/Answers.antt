-- Where live LSPs come from, at the start and after each event.
use Rattle.model_network.proofs.OriginLemmas.{start-origins, apply-origins}
use Rattle.model_network.proofs.agreement.origin_claim.Goals as goal

pub returns-clause-start : goal.returns-clause-start
returns-clause-start c = start-origins

pub returns-clause-event : goal.returns-clause-event
returns-clause-event c = apply-origins
