-- What is printed of faults (own).
use Rattle.std.specs.Prelude.{ℕ, List, ◌++◌, codes, decimal}
use Rattle.isis_pdu.specs.declared.frame.FrameFault.{FrameFault}
use Rattle.isis_pdu.specs.declared.frame.FrameFault.TheVariants as frame
use Rattle.isis_pdu.specs.declared.fault.PduFault.{PduFault}
use Rattle.isis_pdu.specs.declared.fault.PduFaultKind.{PduFaultKind}
use Rattle.isis_pdu.specs.declared.fault.PduFaultKind.TheVariants.{Short, Discriminator, Version, IdLength, PduType, MaxAreas, HeaderLength, CircuitType, PduLength, Tlv}

-- what makes octets no PDU, in words (own)
abbrev pub kind_text : PduFaultKind → List ℕ
kind_text Short = codes "the header ends too early"
kind_text Discriminator = codes "the protocol isn't IS-IS"
kind_text Version = codes "the version isn't 1"
kind_text IdLength = codes "system IDs don't have six octets"
kind_text PduType = codes "the type is unknown"
kind_text MaxAreas = codes "the number of area addresses isn't three"
kind_text HeaderLength = codes "the header length isn't that of the type"
kind_text CircuitType = codes "the circuit type has no level"
kind_text PduLength = codes "the PDU length doesn't fit"
kind_text Tlv = codes "the TLV doesn't fit"

-- what is printed of a fault (own)
abbrev pub pdu_fault_text : PduFault → List ℕ
pdu_fault_text fault = codes "at octet " ++ decimal fault.place ++ codes ": " ++ kind_text fault.kind

-- why a datagram has no frame, in words (own)
abbrev pub frame_fault_text : FrameFault → List ℕ
frame_fault_text frame.Version = codes "the datagram begins with ISU1"
frame_fault_text frame.Short = codes "the datagram has fewer than 14 octets"
frame_fault_text frame.Magic = codes "the datagram doesn't begin with ISU2"
