-- What a datagram that is sent says (ISO 10589 9, RFC 5303 3.1).
use Rattle.std.specs.Prelude.{ℕ, List, Option}
use Rattle.isis_base.specs.declared.level.Level.{Level}
use Rattle.isis_tlv.specs.declared.three_way.Adj.{Adj}
use Rattle.model_router.specs.Cells.{Cell}
use Rattle.model_router.specs.SnpTable.{SnpEntry}

-- A point-to-point hello's three-way TLV (RFC 5303 3.1), a LAN hello's LAN ID and the SNPAs that it
-- lists (ISO 10589 9.5, 9.6), an LSP as it is held (9.8), a CSNP's range and entries (9.10, 9.11),
-- a PSNP's entries (9.12, 9.13).
pub data Sent : Type 0 where
  PointHello : (state : Adj) (extended : ℕ) (names : Option (ℕ × ℕ)) → Sent
  LanHello : (level : Level) (lan : ℕ) (snpas : List ℕ) → Sent
  Lsp : (level : Level) (id : ℕ) (cell : Cell) → Sent
  Csnp : (level : Level) (start end : ℕ) (entries : List SnpEntry) → Sent
  Psnp : (level : Level) (entries : List SnpEntry) → Sent
