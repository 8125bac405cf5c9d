use Rattle.std.proofs.Common.{◌≡◌}
use Rattle.std.specs.Option.{option_map}
use Rattle.isis_tlv.specs.Walks.{fault_of}
use Rattle.isis_pdu.specs.Table.{place_of_fault, tlv_fault}
use Rattle.isis_pdu.proofs.check.tlv_fault.Given as goal

-- the fault is that of what is left
abbrev pub invariant-loop-tlv : goal.invariant-loop-tlv
invariant-loop-tlv l = option_map place_of_fault (fault_of l.tlv-iterator) ≡ tlv_fault l.first l.octets
