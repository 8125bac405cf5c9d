-- An own LSP before it has a sequence number, and what it is once it is issued (ISO 10589 7.3.6,
-- 9.8; that octets are made before the number is known: own).
use Rattle.std.specs.Prelude.{◌≡◌, ℕ, ◌+◌, ◌≤◌, Bool, true, false, List, [], ◌++◌, length, replicate, Option, Some, None}
use Rattle.isis_base.specs.declared.identifiers.LspId.{LspId}
use Rattle.isis_base.specs.declared.level.Level.{Level}
use Rattle.isis_tlv.specs.Tlvs.{AreTlvs}
use Rattle.isis_pdu.specs.Views.{Lsp}
use Rattle.isis_pdu.specs.Spelling.{octets_of_pdu}
use Rattle.hmac_auth.specs.Hmac.{hmac}
use Rattle.hmac_auth.specs.Pdus.{with_piece, blanked}
use Rattle.model_router.specs.Both.{at}
use Rattle.model_router.specs.Routers.{Contents, Router}
use Rattle.model_router.specs.OwnLsps.{issue_cell}
use Rattle.model_datagram.specs.Signing.{auth_octets}
use Rattle.model_datagram.specs.Lsps.{given_octets}
use Rattle.lsp_store.specs.declared.entry.Entry.{Entry}
use Rattle.flag_sync.specs.declared.flag_row.FlagRow.{FlagRow}
use Rattle.flag_sync.specs.FlagRows.{cell_of}
use Rattle.flag_sync.specs.Entries.{with_row}

-- an own LSP without its number: its level and LSP ID, its flags octet and TLVs, and whether it is
-- signed (9.8, RFC 5304 2)
pub record DraftView : Type 0 where
  pub level : Level
  pub id : LspId
  pub contents : Contents
  pub keyed : Bool

-- ---- its octets

-- the authentication before the digest is known, where there is a key (RFC 5304 2)
abbrev pub blank_auth : Bool → List ℕ
blank_auth true = auth_octets (replicate 16 0)
blank_auth false = []

-- an own LSP's octets with MaxAge, 1,200 seconds, behind its header these TLVs (9.8, 7.3.16.3)
abbrev pub lsp_octets_with : Level → LspId → ℕ → ℕ → ℕ → List ℕ → List ℕ
lsp_octets_with level id flags number checksum tlvs =
    octets_of_pdu (Lsp level 1200 id number checksum flags tlvs)

-- what a draft keeps: the octets with number 0, checksum 0 and a digest of zeros (own)
pub record IsDraft (level : Level) (id : LspId) (flags : ℕ) (keyed : Bool)
    (tlvs octets : List ℕ) : Type 0 where
  pub six : length id.node.system.0 ≡ 6
  pub are : AreTlvs tlvs
  pub short : length (blank_auth keyed) + length tlvs ≤ 1465
  pub whole : octets ≡ lsp_octets_with level id flags 0 0 (blank_auth keyed ++ tlvs)

-- octets with the digest in its place, where there is a key (RFC 5304 2)
abbrev pub with_digest : Option (List ℕ) → List ℕ → List ℕ
with_digest None octets = octets
with_digest (Some key) octets = with_piece 30 (hmac key (blanked octets 30)) octets

-- ---- what is issued

-- Beside whichever row of flags, an entry is what the model's router issues with this key and these
-- contents, whatever its routes say (7.3.6).
abbrev pub IsIssuedCell : Option (List ℕ) → Level → ℕ → ℕ → Contents → Entry → Type 0
IsIssuedCell key level id number contents entry =
    (leaks : Router → Level → List (ℕ × ℕ)) (attached : Router → Bool) (r : Router) (row : FlagRow)
    → at r.config.keys level ≡ key
    → cell_of entry row
    ≡ with_row (issue_cell (given_octets leaks attached) r level id number contents) row
