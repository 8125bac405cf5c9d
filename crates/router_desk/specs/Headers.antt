-- A PDU's header, without its TLVs (own).
use Rattle.std.specs.Prelude.{ℕ, List}
use Rattle.isis_base.specs.declared.pdu_kind.PduKind.{PduKind}
use Rattle.isis_base.specs.declared.pdu_kind.PduKind.TheVariants as kind
use Rattle.isis_pdu.specs.Views.{PduView, LanHello, PointHello, Lsp, Csnp, Psnp}
use Rattle.router_desk.specs.declared.header.Header.{Header}
use Rattle.router_desk.specs.declared.header.Header.TheVariants as header

-- the fields of a PDU's header (ISO 10589 9.5 to 9.13)
abbrev pub header_of : PduView → Header
header_of (LanHello level circuit_type source holding priority lan tlvs) =
    header.LanHello level circuit_type source holding priority lan
header_of (PointHello circuit_type source holding circuit tlvs) =
    header.PointHello circuit_type source holding circuit
header_of (Lsp level lifetime id number checksum flags tlvs) =
    header.Lsp level lifetime id number checksum flags
header_of (Csnp level source start end tlvs) = header.Csnp level source start end
header_of (Psnp level source tlvs) = header.Psnp level source

-- the PDU of a header and TLVs
abbrev pub pdu_with : Header → List ℕ → PduView
pdu_with (header.LanHello level circuit_type source holding priority lan) tlvs =
    LanHello level circuit_type source holding priority lan tlvs
pdu_with (header.PointHello circuit_type source holding circuit) tlvs =
    PointHello circuit_type source holding circuit tlvs
pdu_with (header.Lsp level lifetime id number checksum flags) tlvs =
    Lsp level lifetime id number checksum flags tlvs
pdu_with (header.Csnp level source start end) tlvs = Csnp level source start end tlvs
pdu_with (header.Psnp level source) tlvs = Psnp level source tlvs

-- the type that a header is of
abbrev pub header_kind : Header → PduKind
header_kind (header.LanHello level circuit_type source holding priority lan) = kind.LanHello level
header_kind (header.PointHello circuit_type source holding circuit) = kind.PointHello
header_kind (header.Lsp level lifetime id number checksum flags) = kind.Lsp level
header_kind (header.Csnp level source start end) = kind.Csnp level
header_kind (header.Psnp level source) = kind.Psnp level
