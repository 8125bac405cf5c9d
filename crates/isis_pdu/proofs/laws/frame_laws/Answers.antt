use Rattle.isis_pdu.proofs.DatagramLemmas.{unframed-framed, framed-begins, framed-unframed}
use Rattle.isis_pdu.proofs.laws.frame_laws.Goals as goal

pub returns-clause-again : goal.returns-clause-again
returns-clause-again c = unframed-framed

pub returns-clause-begins : goal.returns-clause-begins
returns-clause-begins c = framed-begins

pub returns-clause-whole : goal.returns-clause-whole
returns-clause-whole c = framed-unframed
