-- What is printed of faults (own).
use Rattle.std.specs.Prelude.{ℕ, List, ◌++◌, codes, decimal}
use Rattle.isis_tlv.specs.declared.fault.ValueFault.{ValueFault}
use Rattle.isis_tlv.specs.declared.tlv.TlvFault.{TlvFault}
use Rattle.isis_tlv.specs.declared.tlv.TlvFault.TheVariants.{Header, Past}

-- what is printed of a fault of TLVs (own)
abbrev pub tlv_fault_text : TlvFault → List ℕ
tlv_fault_text (Header place) = codes "the TLV at octet " ++ decimal place ++ codes " has no length"
tlv_fault_text (Past place) =
    codes "the value of the TLV at octet " ++ decimal place ++ codes " passes the end"

-- what is printed of a fault of a value (own)
abbrev pub value_fault_text : ValueFault → List ℕ
value_fault_text fault =
    codes "the item at octet " ++ decimal fault.place ++ codes " of the value doesn't fit"
