use Rattle.std.proofs.Common.{subst, sym}
use Rattle.isis_tlv.specs.Tlvs.{AreTlvs}
use Rattle.model_datagram.proofs.ItemLemmas.{tlvs-none}
use Rattle.router_sending.proofs.writing.begin.Goals as goal

pub encode-requires-clause-tlvs : goal.encode-requires-clause-tlvs
encode-requires-clause-tlvs c = subst AreTlvs (sym c.requires.tlvs) tlvs-none
