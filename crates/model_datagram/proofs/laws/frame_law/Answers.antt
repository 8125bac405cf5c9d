-- A frame reads back.
use Rattle.model_datagram.proofs.ReadLemmas.{unframed-reads_back}
use Rattle.model_datagram.proofs.laws.frame_law.Goals as goal

pub returns : goal.returns
returns c = unframed-reads_back
