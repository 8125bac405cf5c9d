-- The fields of each type at their offsets (ISO 10589 9.5 to 9.13).
use Rattle.std.specs.Prelude.{ℕ, ◌%◌, ◌-◌, ◌==◌, Bool, true, false, List, [], ◌∷◌, take, drop, find, slice_index, Option, if◌then◌else◌}
use Rattle.isis_base.specs.declared.level.Level.TheVariants as level
use Rattle.isis_base.specs.declared.level.LevelSet.{LevelSet}
use Rattle.isis_base.specs.declared.level.LevelSet.TheVariants as levels
use Rattle.isis_base.specs.Fields.{u16_at, u32_at, system_at, node_at, lsp_at}
use Rattle.isis_base.specs.declared.pdu_kind.PduKind.{PduKind}
use Rattle.isis_base.specs.declared.pdu_kind.PduKind.TheVariants as kind
use Rattle.isis_base.specs.PduKinds.{header_length, length_place}
use Rattle.isis_pdu.specs.Views.{PduView, LanHello, PointHello, Lsp, Csnp, Psnp}

-- the type of a value
abbrev pub kind_of : PduView → PduKind
kind_of (LanHello level circuit_type source holding priority lan tlvs) = kind.LanHello level
kind_of (PointHello circuit_type source holding circuit tlvs) = kind.PointHello
kind_of (Lsp level lifetime id number checksum flags tlvs) = kind.Lsp level
kind_of (Csnp level source start end tlvs) = kind.Csnp level
kind_of (Psnp level source tlvs) = kind.Psnp level

-- the PDU length (ISO 10589 9)
abbrev pub length_at : PduKind → List ℕ → ℕ
length_at kind octets = u16_at (length_place kind) octets

-- the octets from the header up to the PDU length
abbrev pub body_at : PduKind → List ℕ → ℕ → List ℕ
body_at kind octets n = take (n - header_length kind) (drop (header_length kind) octets)

-- the levels of a circuit type: its low two bits are 1, 2, or 3 for both (ISO 10589 9.5)
abbrev pub circuit_levels : ℕ → LevelSet
circuit_levels octet =
    if octet % 4 == 1 then levels.One else (if octet % 4 == 2 then levels.Two else levels.Both)

-- the value that a type's fields have at their offsets, with these TLVs (ISO 10589 9.5 to 9.13)
abbrev pub value_at : PduKind → List ℕ → List ℕ → PduView
value_at (kind.LanHello level) octets tlvs =
    LanHello level (circuit_levels (slice_index octets 8)) (system_at 9 octets) (u16_at 15 octets)
    (slice_index octets 19 % 128) (node_at 20 octets) tlvs
value_at kind.PointHello octets tlvs =
    PointHello (circuit_levels (slice_index octets 8)) (system_at 9 octets) (u16_at 15 octets)
    (slice_index octets 19) tlvs
value_at (kind.Lsp level) octets tlvs =
    Lsp level (u16_at 10 octets) (lsp_at 12 octets) (u32_at 20 octets) (u16_at 24 octets)
    (slice_index octets 26) tlvs
value_at (kind.Csnp level) octets tlvs =
    Csnp level (node_at 10 octets) (lsp_at 17 octets) (lsp_at 25 octets) tlvs
value_at (kind.Psnp level) octets tlvs = Psnp level (node_at 10 octets) tlvs
