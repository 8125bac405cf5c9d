use Rattle.std.proofs.Common.{◌≡◌}
use Rattle.isis_tlv.specs.Walks.{fault_of}
use Rattle.isis_tlv.specs.Tlvs.{tlvs_of}
use Rattle.isis_tlv.proofs.tlv.are_tlvs.Given as goal

-- the fault of what is left is that of the whole
abbrev pub invariant-loop-tlv : goal.invariant-loop-tlv
invariant-loop-tlv l = fault_of l.tlv-iterator ≡ fault_of (tlvs_of 0 l.octets)
