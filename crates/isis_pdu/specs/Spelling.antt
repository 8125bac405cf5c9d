-- What is written of a PDU (ISO 10589 9; the form: own).
use Rattle.std.specs.Prelude.{◌≡◌, ℕ, ◌+◌, ◌^◌, ◌<◌, ◌≤◌, List, [], ◌∷◌, ◌++◌, length}
use Rattle.isis_base.specs.declared.identifiers.NodeId.{NodeId}
use Rattle.isis_base.specs.declared.identifiers.LspId.{LspId}
use Rattle.isis_base.specs.declared.level.LevelSet.{LevelSet}
use Rattle.isis_base.specs.declared.level.LevelSet.TheVariants as levels
use Rattle.isis_base.specs.Identifiers.{node_octets, lsp_octets}
use Rattle.isis_base.specs.Fields.{u16_octets, u32_octets}
use Rattle.isis_tlv.specs.Tlvs.{AreTlvs}
use Rattle.isis_base.specs.declared.pdu_kind.PduKind.{PduKind}
use Rattle.isis_pdu.specs.Views.{PduView, LanHello, PointHello, Lsp, Csnp, Psnp, tlvs_of_pdu}
use Rattle.isis_base.specs.PduKinds.{type_number, header_length}
use Rattle.isis_pdu.specs.Layout.{kind_of}

-- the PDU length: the header's octets and the TLVs' (ISO 10589 9)
abbrev pub encoded_len : PduView → ℕ
encoded_len pdu = header_length (kind_of pdu) + length (tlvs_of_pdu pdu)

-- the octets that a PDU of a type begins with: ID length, reserved bits and the number of areas are 0 (ISO 10589 9)
abbrev pub start_octets : PduKind → List ℕ
start_octets kind = 131 ∷ header_length kind ∷ 1 ∷ 0 ∷ type_number kind ∷ 1 ∷ 0 ∷ 0 ∷ []

-- the octet of a circuit type (ISO 10589 9.5)
abbrev pub levels_octet : LevelSet → ℕ
levels_octet levels.One = 1
levels_octet levels.Two = 2
levels_octet levels.Both = 3

-- the octets of a header behind those, with the PDU length (ISO 10589 9.5 to 9.13)
abbrev pub field_octets : PduView → ℕ → List ℕ
field_octets (LanHello level circuit_type source holding priority lan tlvs) n =
    levels_octet circuit_type ∷ [] ++ source.0 ++ u16_octets holding ++ u16_octets n
    ++ priority ∷ [] ++ node_octets lan
field_octets (PointHello circuit_type source holding circuit tlvs) n =
    levels_octet circuit_type ∷ [] ++ source.0 ++ u16_octets holding ++ u16_octets n ++ circuit ∷ []
field_octets (Lsp level lifetime id number checksum flags tlvs) n =
    u16_octets n ++ u16_octets lifetime ++ lsp_octets id ++ u32_octets number ++ u16_octets checksum
    ++ flags ∷ []
field_octets (Csnp level source start end tlvs) n =
    u16_octets n ++ node_octets source ++ lsp_octets start ++ lsp_octets end
field_octets (Psnp level source tlvs) n = u16_octets n ++ node_octets source

-- the header, and the octets that are written
abbrev pub header_octets : PduView → List ℕ
header_octets pdu = start_octets (kind_of pdu) ++ field_octets pdu (encoded_len pdu)

abbrev pub octets_of_pdu : PduView → List ℕ
octets_of_pdu pdu = header_octets pdu ++ tlvs_of_pdu pdu

-- What a field of the standard's size holds. A clause's numbers and lists have no size of their own.

-- a node ID and an LSP ID (ISO 10589 9.8)
abbrev pub IsNode : NodeId → Type 0
IsNode node = length node.system.0 ≡ 6

abbrev pub IsLspId : LspId → Type 0
IsLspId id = IsNode id.node

-- the fields of a PDU; a priority has seven bits (ISO 10589 9.5 to 9.13)
abbrev pub FieldsFit : PduView → Type 0
FieldsFit (LanHello level circuit_type source holding priority lan tlvs) =
    (length source.0 ≡ 6) × (holding < 2 ^ 16) × (priority ≤ 127) × IsNode lan
FieldsFit (PointHello circuit_type source holding circuit tlvs) =
    (length source.0 ≡ 6) × (holding < 2 ^ 16)
FieldsFit (Lsp level lifetime id number checksum flags tlvs) =
    (lifetime < 2 ^ 16) × IsLspId id × (number < 2 ^ 32) × (checksum < 2 ^ 16)
FieldsFit (Csnp level source start end tlvs) = IsNode source × IsLspId start × IsLspId end
FieldsFit (Psnp level source tlvs) = IsNode source

-- a LAN hello's priority, and 0 of another PDU
abbrev pub priority_of : PduView → ℕ
priority_of (LanHello level circuit_type source holding priority lan tlvs) = priority
priority_of (PointHello circuit_type source holding circuit tlvs) = 0
priority_of (Lsp level lifetime id number checksum flags tlvs) = 0
priority_of (Csnp level source start end tlvs) = 0
priority_of (Psnp level source tlvs) = 0

-- a PDU that its fields, its length and its TLVs let be written (ISO 10589 9)
pub record IsWritable (pdu : PduView) : Type 0 where
  pub fields : FieldsFit pdu
  pub fits : encoded_len pdu ≤ 65535
  pub tlvs : AreTlvs (tlvs_of_pdu pdu)
