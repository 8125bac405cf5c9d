-- Octets that begin with a PDU decode to it.
use Rattle.model_datagram.proofs.ReadLemmas.{decoded-begins}
use Rattle.model_datagram.proofs.laws.decoded_law.Goals as goal

pub returns : goal.returns
returns c = decoded-begins
