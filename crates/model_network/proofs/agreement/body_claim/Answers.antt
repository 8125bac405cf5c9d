-- Live LSPs of one rank have one body.
use Rattle.model_network.proofs.OriginLemmas.{one-body}
use Rattle.model_network.proofs.agreement.body_claim.Goals as goal

pub returns : goal.returns
returns c net l i j id a b x y h single at_a at_b p q same live = one-body net i j a b l id x y h single at_a at_b p q same live
