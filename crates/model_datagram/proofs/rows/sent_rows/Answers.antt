-- By computation.
use Rattle.std.proofs.Common.{refl}
use Rattle.model_datagram.specs.Datagrams.{pdu_octets}
use Rattle.model_datagram.specs.Signing.{signed}
use Rattle.model_datagram.specs.Frames.{framed}
use Rattle.model_datagram.proofs.rows.sent_rows.Goals as goal

pub returns-clause-frame : goal.returns-clause-frame
unfolding framed
returns-clause-frame c = refl

pub returns-clause-point_hello : goal.returns-clause-point_hello
unfolding pdu_octets signed
returns-clause-point_hello c = refl

pub returns-clause-lan_hello : goal.returns-clause-lan_hello
unfolding pdu_octets signed
returns-clause-lan_hello c = refl

pub returns-clause-csnp : goal.returns-clause-csnp
unfolding pdu_octets signed
returns-clause-csnp c = refl

pub returns-clause-psnp : goal.returns-clause-psnp
unfolding pdu_octets signed
returns-clause-psnp c = refl
