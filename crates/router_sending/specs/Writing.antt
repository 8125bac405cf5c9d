-- A datagram while it is written: the frame and a header without TLVs, then the TLVs, and at last
-- the PDU length and the digest (ISO 10589 9; RFC 5304 2; the order: own).
use Rattle.std.specs.Prelude.{ℕ, ◌+◌, ◌≤◌, Bool, IfSome, List, [], ◌++◌, length, take, drop, map, Option, Some, None}
use Rattle.std.specs.List.{flat_map}
use Rattle.isis_base.specs.declared.identifiers.SystemId.{SystemId}
use Rattle.isis_base.specs.declared.pdu_kind.PduKind.{PduKind}
use Rattle.isis_base.specs.PduKinds.{header_length, length_place}
use Rattle.isis_base.specs.Fields.{u16_octets, u32_octets}
use Rattle.isis_pdu.specs.Views.{PduView}
use Rattle.isis_pdu.specs.Spelling.{octets_of_pdu}
use Rattle.hmac_auth.specs.Hmac.{hmac}
use Rattle.hmac_auth.specs.Pdus.{with_piece, blanked}
use Rattle.hmac_auth.specs.Auth.{IsDigestPlace}
use Rattle.model_datagram.specs.Tlvs.{in_pieces}
use Rattle.model_datagram.specs.Frames.{magic}
use Rattle.isis_tlv.specs.Spelling.{snpa_tlv}
use Rattle.adjacency.specs.declared.neighbour.Neighbour.{Neighbour}
use Rattle.router_sending.specs.Drafts.{blank_auth}

-- the frame of a system in a boot, and what stands behind it (own)
abbrev pub frame_of : SystemId → ℕ → List ℕ → List ℕ
frame_of system boot pdu = magic ++ (system.0 ++ (u32_octets boot ++ pdu))

-- a datagram's octets before its length and digest are known, of a PDU but for its TLVs (own)
abbrev pub begun : SystemId → ℕ → (List ℕ → PduView) → Bool → List ℕ → List ℕ
begun system boot pdu keyed tlvs =
    frame_of system boot (octets_of_pdu (pdu []) ++ (blank_auth keyed ++ tlvs))

-- a PDU's octets with their length in its place (ISO 10589 9)
abbrev pub sized : PduKind → List ℕ → List ℕ
sized kind pdu = with_piece (length_place kind) (u16_octets (length pdu)) pdu

-- what of a PDU its length and digest need: a header, and where there is a key the place of the
-- digest, behind the header (RFC 5304 2)
pub record IsSignable (kind : PduKind) (key : Option (List ℕ)) (pdu : List ℕ) : Type 0 where
  pub header : header_length kind ≤ length pdu
  pub short : length pdu ≤ 65535
  pub room : IfSome key (λ _. header_length kind + 19 ≤ length pdu)
  pub place : IfSome key (λ _. IsDigestPlace (sized kind pdu) (header_length kind + 3))

-- with the digest in its place, behind the header, where there is a key (RFC 5304 2)
abbrev pub digested : PduKind → Option (List ℕ) → List ℕ → List ℕ
digested kind None pdu = pdu
digested kind (Some key) pdu =
    let at = header_length kind + 3 in with_piece at (hmac key (blanked pdu at)) pdu

-- the datagram with both (own)
abbrev pub ended : PduKind → Option (List ℕ) → List ℕ → List ℕ
ended kind key octets = take 14 octets ++ digested kind key (sized kind (drop 14 octets))

-- a datagram that has both's places (own)
pub record IsEndable (kind : PduKind) (key : Option (List ℕ)) (octets : List ℕ) : Type 0 where
  pub frame : 14 ≤ length octets
  pub pdu : IsSignable kind key (drop 14 octets)

-- a list in pieces of a size, each piece as octets (own)
abbrev pub pieced : {X : Type 0} → ℕ → (List X → List ℕ) → List X → List ℕ
pieced size octets list = flat_map octets (in_pieces (length list) size list)

-- the TLV of the SNPAs of neighbours (ISO 10589 9.5)
abbrev pub heard_tlv : List Neighbour → List ℕ
heard_tlv piece = snpa_tlv (map (λ (n : Neighbour). n.snpa) piece)
