use Rattle.isis_pdu.proofs.FrameLemmas.{framed}
use Rattle.isis_pdu.proofs.laws.framed_law.Goals as goal

pub returns : goal.returns
returns c = framed
