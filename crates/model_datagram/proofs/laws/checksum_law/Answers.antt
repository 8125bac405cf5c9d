-- The checksum that is written holds.
use Rattle.std.proofs.Common.{sym, subst}
use Rattle.iso_checksum.specs.Checksum.{octet_sum, weighted_sum, IsCheckOctet}
use Rattle.model_datagram.specs.CheckOctets.{first_check}
use Rattle.model_datagram.proofs.CheckLemmas.{high-check, low-check, checksum-parts, checksum-holds}
use Rattle.model_datagram.proofs.laws.checksum_law.Goals as goal

pub returns-clause-holds : goal.returns-clause-holds
returns-clause-holds c = λ octets place weight within blank size. checksum-holds octets place within blank weight size

pub returns-clause-first : goal.returns-clause-first
returns-clause-first c = λ octets weight. subst IsCheckOctet (sym (checksum-parts octets weight).0) (high-check (octet_sum octets) (weighted_sum octets) weight)

pub returns-clause-second : goal.returns-clause-second
returns-clause-second c = λ octets weight. subst IsCheckOctet (sym (checksum-parts octets weight).1) (low-check (octet_sum octets) (first_check (octet_sum octets) (weighted_sum octets) weight))
