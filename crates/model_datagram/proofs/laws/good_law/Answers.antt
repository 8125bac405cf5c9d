-- What is read is good.
use Rattle.model_datagram.proofs.GoodLemmas.{good-read}
use Rattle.model_datagram.proofs.laws.good_law.Goals as goal

pub returns : goal.returns
returns c = good-read
