-- When octets read as a value.
use Rattle.std.specs.Prelude.{◌≡◌, ◌≢◌, ◌⊎◌, ℕ, ◌%◌, ◌≤◌, List, length, IsTrue, slice_index}
use Rattle.isis_tlv.specs.Tlvs.{AreTlvs}
use Rattle.isis_pdu.specs.Views.{PduView, tlvs_of_pdu}
use Rattle.isis_base.specs.PduKinds.{type_number, header_length, is_hello}
use Rattle.isis_pdu.specs.Layout.{kind_of, length_at, body_at, value_at}

-- The octets read as this value, with n as their PDU length (ISO 10589 9). Reserved bits and octets aren't looked at, and
-- an octet past the end counts as 0.
pub record ReadsAs (octets : List ℕ) (pdu : PduView) (n : ℕ) : Type 0 where
  pub discriminator : slice_index octets 0 ≡ 131
  pub header : slice_index octets 1 ≡ header_length (kind_of pdu)
  pub version : slice_index octets 2 ≡ 1
  pub id_length : (slice_index octets 3 ≡ 0) ⊎ (slice_index octets 3 ≡ 6)
  pub kind : slice_index octets 4 % 32 ≡ type_number (kind_of pdu)
  pub other_version : slice_index octets 5 ≡ 1
  pub areas : (slice_index octets 7 ≡ 0) ⊎ (slice_index octets 7 ≡ 3)
  pub circuit_type : IsTrue (is_hello (kind_of pdu)) → slice_index octets 8 % 4 ≢ 0
  pub size : length_at (kind_of pdu) octets ≡ n
  pub least : header_length (kind_of pdu) ≤ n
  pub value : value_at (kind_of pdu) octets (body_at (kind_of pdu) octets n) ≡ pdu
  pub tlvs : AreTlvs (tlvs_of_pdu pdu)

-- the octets begin with a PDU of n octets, all of them there, that says this value (ISO 10589 9)
abbrev pub Begins : List ℕ → PduView → ℕ → Type 0
Begins octets pdu n = ReadsAs octets pdu n × (n ≤ length octets)
