-- What is claimed of a link follows from what is kept of it.
use Rattle.model_network.proofs.ClaimLemmas.{link-claim}
use Rattle.model_network.proofs.CountLemmas.{ahead-flags}
use Rattle.model_network.proofs.laws.link_claim.Goals as goal

pub returns-clause-claim : goal.returns-clause-claim
returns-clause-claim c = link-claim

pub returns-clause-near : goal.returns-clause-near
returns-clause-near c = λ e f k a b ds l h up. ahead-flags e a b l h.near.sound (link-claim e f k a b ds l h up).there

pub returns-clause-far : goal.returns-clause-far
returns-clause-far c = λ e f k a b ds l h up. ahead-flags f b a l h.far.sound (λ id x y. (link-claim e f k a b ds l h up).back id y x)
