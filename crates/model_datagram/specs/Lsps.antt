-- LSPs as octets: one's own as they are issued, and what is held as it is sent (ISO 10589 9.8,
-- 7.3.15.5, 7.3.16.4).
use Rattle.std.specs.Prelude.{ℕ, ◌+◌, Bool, List, ◌++◌, length, drop, replicate, Option, Some, None, if◌then◌else◌}
use Rattle.isis_base.specs.declared.level.Level.{Level}
use Rattle.isis_base.specs.Fields.{u16_octets}
use Rattle.isis_pdu.specs.Views.{PduView, Lsp}
use Rattle.isis_pdu.specs.Spelling.{octets_of_pdu}
use Rattle.hmac_auth.specs.Pdus.{with_piece}
use Rattle.model_router.specs.Both.{at}
use Rattle.model_router.specs.Ranks.{is_live}
use Rattle.model_router.specs.Cells.{Cell}
use Rattle.model_router.specs.Routers.{Contents, Router}
use Rattle.model_router.specs.Givens.{Given}
use Rattle.model_router.specs.Numbers.{lsp_id}
use Rattle.model_datagram.specs.Signing.{auth_octets, digest_of, signed_tlvs}
use Rattle.model_datagram.specs.CheckOctets.{checksum_with}

-- ---- one's own, as it is issued, with MaxAge, 1,200 seconds (ISO 10589 7.3.16.3)

-- its header with a checksum, before its TLVs (9.8)
abbrev pub issued_with : Level → ℕ → ℕ → ℕ → ℕ → List ℕ → PduView
issued_with level id number flags checksum tlvs =
    Lsp level 1200 (lsp_id id) number checksum flags tlvs

-- its TLVs, of which authentication is the first where there is a key (RFC 5304 2)
abbrev pub issued_tlvs : Option (List ℕ) → Level → ℕ → ℕ → Contents → List ℕ
issued_tlvs key level id number contents =
    signed_tlvs key (issued_with level id number contents.flags 0) contents.tlvs

-- its checksum: of the octets from the LSP ID on (ISO 10589 7.3.11)
abbrev pub issued_checksum : Option (List ℕ) → Level → ℕ → ℕ → Contents → ℕ
issued_checksum key level id number contents =
    let tlvs = issued_tlvs key level id number contents in
    checksum_with (drop 12 (octets_of_pdu (issued_with level id number contents.flags 0 tlvs)))
    (length tlvs + 2)

-- 9.8
abbrev pub issued_pdu : Option (List ℕ) → Level → ℕ → ℕ → Contents → PduView
issued_pdu key level id number contents =
    issued_with level id number contents.flags (issued_checksum key level id number contents)
    (issued_tlvs key level id number contents)

-- what a step of the model is given, with the octets and the checksum of what is issued (own)
abbrev pub given_octets : (Router → Level → List (ℕ × ℕ)) → (Router → Bool) → Given
given_octets leaks attached = record {
  leaks = leaks;
  attached = attached;
  octets = λ (r : Router) (level : Level) (id number : ℕ) (contents : Contents).
      octets_of_pdu (issued_pdu (at r.config.keys level) level id number contents);
  checksum = λ (r : Router) (level : Level) (id number : ℕ) (contents : Contents).
      issued_checksum (at r.config.keys level) level id number contents;
}

-- ---- what is held, as it is sent

-- a live LSP's octets with the seconds that are left (ISO 10589 7.3.15.5)
abbrev pub with_lifetime : ℕ → List ℕ → List ℕ
with_lifetime left octets = with_piece 10 (u16_octets left) octets

-- a purge's header with the authentication, where there is a key (RFC 5304 2)
abbrev pub signed_purge : Option (List ℕ) → List ℕ → List ℕ
signed_purge None header = header
signed_purge (Some key) header =
    let sized = with_piece 8 (u16_octets 46) header in
    sized ++ auth_octets (digest_of key 27 (sized ++ auth_octets (replicate 16 0)))

-- 7.3.15.5, RFC 5304 2
unfoldable pub lsp_sent : Option (List ℕ) → Cell → List ℕ
lsp_sent key cell =
    if is_live cell.rank then with_lifetime cell.left cell.octets else signed_purge key cell.octets
