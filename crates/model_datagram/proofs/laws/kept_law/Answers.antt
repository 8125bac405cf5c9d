-- What is kept tells itself.
use Rattle.model_datagram.proofs.KeptLemmas.{kept-tells}
use Rattle.model_datagram.proofs.laws.kept_law.Goals as goal

pub returns : goal.returns
returns c = kept-tells
