-- Along a chain of clean links live views are one.
use Rattle.model_network.proofs.ChainLemmas.{chain-agrees}
use Rattle.model_network.proofs.agreement.group_claim.Goals as goal

pub returns : goal.returns
returns c = chain-agrees
