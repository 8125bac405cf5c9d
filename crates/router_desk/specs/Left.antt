-- The items of the TLVs of a code that a walk has left.
use Rattle.std.specs.Prelude.{ℕ, List, Result}
use Rattle.std.specs.List.{flat_map}
use Rattle.std.specs.Result.{ok_prefix}
use Rattle.isis_tlv.specs.declared.fault.ValueFault.{ValueFault}
use Rattle.isis_tlv.specs.declared.tlv.TlvFault.{TlvFault}
use Rattle.isis_tlv.specs.Tlvs.{TlvView}
use Rattle.model_datagram.specs.Values.{items_if}

-- what the TLVs that are left say, of a code (own)
abbrev pub items_left : {X : Type 0} → ℕ → (List ℕ → List (Result X ValueFault))
    → List (Result TlvView TlvFault) → List (Result X ValueFault)
items_left code reader tlvs = flat_map (items_if code reader) (ok_prefix tlvs)
