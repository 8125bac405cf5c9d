-- Octets that are a header and TLVs.
use Rattle.std.specs.Prelude.{◌≡◌, ℕ, ◌≤◌, List, length, drop, Some}
use Rattle.std.specs.Option.{option_map}
use Rattle.isis_base.specs.PduKinds.{kind_at, header_length}
use Rattle.isis_tlv.specs.Tlvs.{AreTlvs}

-- the octets have the header of their type, and behind it TLVs to their end (ISO 10589 9)
pub record IsPdu (pdu : List ℕ) (header : ℕ) : Type 0 where
  pub kind : option_map header_length (kind_at pdu) ≡ Some header
  pub within : header ≤ length pdu
  pub tlvs : AreTlvs (drop header pdu)
