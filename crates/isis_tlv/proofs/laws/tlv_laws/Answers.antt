use Rattle.isis_tlv.specs.Tlvs.{tlvs_of}
use Rattle.isis_tlv.proofs.TlvLemmas.{fault-anywhere, list-all, tlvs-reads_back, tlvs-joined, tlvs-one, tlvs-stand}
use Rattle.isis_tlv.proofs.laws.tlv_laws.Goals as goal

pub returns-clause-stands : goal.returns-clause-stands
returns-clause-stands c = λ place octets. tlvs-stand octets place

pub returns-clause-anywhere : goal.returns-clause-anywhere
returns-clause-anywhere c = λ place octets. (fault-anywhere octets 0 place, fault-anywhere octets place 0)

pub returns-clause-list : goal.returns-clause-list
returns-clause-list c = λ place octets are. list-all (tlvs_of place octets) (fault-anywhere octets 0 place are)

pub returns-clause-again : goal.returns-clause-again
returns-clause-again c = λ place octets are. tlvs-reads_back octets place (fault-anywhere octets 0 place are)

pub returns-clause-joined : goal.returns-clause-joined
returns-clause-joined c = tlvs-joined

pub returns-clause-one : goal.returns-clause-one
returns-clause-one c = tlvs-one
