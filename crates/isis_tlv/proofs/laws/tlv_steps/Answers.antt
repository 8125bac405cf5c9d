use Rattle.isis_tlv.proofs.TlvLemmas.{tlvs-end, tlvs-tlv, tlvs-header, tlvs-past}
use Rattle.isis_tlv.proofs.laws.tlv_steps.Goals as goal

pub returns-clause-end : goal.returns-clause-end
returns-clause-end c = tlvs-end

pub returns-clause-tlv : goal.returns-clause-tlv
returns-clause-tlv c = tlvs-tlv

pub returns-clause-header : goal.returns-clause-header
returns-clause-header c = tlvs-header

pub returns-clause-past : goal.returns-clause-past
returns-clause-past c = tlvs-past
