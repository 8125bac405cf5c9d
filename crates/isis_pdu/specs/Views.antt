-- PDUs without where their TLVs lie in memory (own).
use Rattle.std.specs.Prelude.{ℕ, List, Result, Ok, Err}
use Rattle.isis_base.specs.declared.identifiers.SystemId.{SystemId}
use Rattle.isis_base.specs.declared.identifiers.NodeId.{NodeId}
use Rattle.isis_base.specs.declared.identifiers.LspId.{LspId}
use Rattle.isis_base.specs.declared.level.Level.{Level}
use Rattle.isis_base.specs.declared.level.LevelSet.{LevelSet}
use Rattle.isis_pdu.specs.declared.pdu.Pdu.{Pdu}
use Rattle.isis_pdu.specs.declared.pdu.Pdu.TheVariants as pdu
use Rattle.isis_pdu.specs.declared.fault.PduFault.{PduFault}

-- a PDU's value without where its TLVs lie in memory; the fields are in the order of `Pdu` (own)
pub data PduView : Type 0 where
  LanHello : Level → LevelSet → SystemId → ℕ → ℕ → NodeId → List ℕ → PduView
  PointHello : LevelSet → SystemId → ℕ → ℕ → List ℕ → PduView
  Lsp : Level → ℕ → LspId → ℕ → ℕ → ℕ → List ℕ → PduView
  Csnp : Level → NodeId → LspId → LspId → List ℕ → PduView
  Psnp : Level → NodeId → List ℕ → PduView

abbrev pub pdu_view : Pdu → PduView
pdu_view (pdu.LanHello level circuit_type source holding priority lan tlvs) =
    LanHello level circuit_type source holding priority lan tlvs.now
pdu_view (pdu.PointHello circuit_type source holding circuit tlvs) =
    PointHello circuit_type source holding circuit tlvs.now
pdu_view (pdu.Lsp level lifetime id number checksum flags tlvs) =
    Lsp level lifetime id number checksum flags tlvs.now
pdu_view (pdu.Csnp level source start end tlvs) = Csnp level source start end tlvs.now
pdu_view (pdu.Psnp level source tlvs) = Psnp level source tlvs.now

-- the octets behind the header
abbrev pub tlvs_of_pdu : PduView → List ℕ
tlvs_of_pdu (LanHello level circuit_type source holding priority lan tlvs) = tlvs
tlvs_of_pdu (PointHello circuit_type source holding circuit tlvs) = tlvs
tlvs_of_pdu (Lsp level lifetime id number checksum flags tlvs) = tlvs
tlvs_of_pdu (Csnp level source start end tlvs) = tlvs
tlvs_of_pdu (Psnp level source tlvs) = tlvs

-- the same of what `decode` answers (own)
abbrev pub decoded_view : Result (Pdu × ℕ) PduFault → Result (PduView × ℕ) PduFault
decoded_view (Ok found) = Ok (pdu_view found.0, found.1)
decoded_view (Err fault) = Err fault
