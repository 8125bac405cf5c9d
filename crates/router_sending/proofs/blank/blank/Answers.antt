use Rattle.model_datagram.proofs.ItemLemmas.{tlvs-none}
use Rattle.router_sending.proofs.blank.blank.Goals as goal

pub encode-requires-clause-tlvs : goal.encode-requires-clause-tlvs
encode-requires-clause-tlvs c = tlvs-none
