-- When a PDU is authentic, and when each fault comes (RFC 5304 2; the form: own).
use Rattle.std.specs.Prelude.{◌≡◌, ◌≢◌, ℕ, ◌+◌, ◌==◌, ◌&&◌, not, Bool, IsTrue, List, length, take, drop, slice_index, Option, Some, None, Result, Ok, Err, IsSomeAnd, Any, find, if◌then◌else◌}
use Rattle.std.specs.List.{list_any}
use Rattle.std.specs.Str.{bytes_eq}
use Rattle.isis_tlv.specs.Tlvs.{TlvView, tlv_list}
use Rattle.hmac_auth.specs.declared.fault.AuthFault.{AuthFault}
use Rattle.hmac_auth.specs.declared.fault.AuthFault.TheVariants.{Missing, OtherType, PurgeBody, Wrong}
use Rattle.hmac_auth.specs.Hmac.{hmac}
use Rattle.isis_tlv.specs.Framed.{IsPdu}
use Rattle.hmac_auth.specs.Pdus.{is_purge, blanked}

-- the TLVs behind the header (ISO 10589 9)
abbrev pub pdu_tlvs : List ℕ → ℕ → List TlvView
pdu_tlvs pdu header = tlv_list header (drop header pdu)

-- the first of them with authentication information, code 10 (ISO 10589 9)
abbrev pub auth_tlv : List ℕ → ℕ → Option TlvView
auth_tlv pdu header = find (λ tlv. tlv.code == 10) (pdu_tlvs pdu header)

-- HMAC-MD5: the type 54 and sixteen octets (RFC 5304 2)
abbrev pub IsHmac : TlvView → Type 0
IsHmac tlv = (length tlv.value ≡ 17) × (slice_index tlv.value 0 ≡ 54)

-- the sixteen octets from a place on are the digest of the PDU under the key (RFC 5304 2)
abbrev pub HasDigest : List ℕ → List ℕ → ℕ → Type 0
HasDigest key pdu place = take 16 (drop place pdu) ≡ hmac key (blanked pdu place)

-- a purge with a TLV of a code other than 10 (RFC 5304 2)
abbrev pub HasPurgeBody : List ℕ → ℕ → Type 0
HasPurgeBody pdu header = IsTrue (is_purge pdu) × Any (λ tlv. tlv.code ≢ 10) (pdu_tlvs pdu header)

-- its first TLV of code 10 has the digest of the PDU under the key, and it is no purge with a body (RFC 5304 2)
abbrev pub IsAuthentic : List ℕ → List ℕ → ℕ → Type 0
IsAuthentic key pdu header =
    IsSomeAnd (auth_tlv pdu header) (λ tlv. IsHmac tlv × HasDigest key pdu (tlv.place + 3))
    × ¬ HasPurgeBody pdu header

-- when each fault comes; no two come together (RFC 5304 2, and of the order: own)
abbrev pub AuthCause : List ℕ → List ℕ → ℕ → AuthFault → Type 0
AuthCause key pdu header Missing = auth_tlv pdu header ≡ None
AuthCause key pdu header OtherType = IsSomeAnd (auth_tlv pdu header) (λ tlv. ¬ IsHmac tlv)
AuthCause key pdu header PurgeBody =
    IsSomeAnd (auth_tlv pdu header) IsHmac × HasPurgeBody pdu header
AuthCause key pdu header Wrong =
    IsSomeAnd (auth_tlv pdu header) (λ tlv. IsHmac tlv × ¬ HasDigest key pdu (tlv.place + 3))
    × ¬ HasPurgeBody pdu header

-- ---- the same as functions

-- the place of the digest, or why there is none (own)
abbrev pub place_in : Option TlvView → Result ℕ AuthFault
place_in None = Err Missing
place_in (Some tlv) =
    if (length tlv.value == 17) && (slice_index tlv.value 0 == 54)
    then Ok (tlv.place + 3) else Err OtherType

unfoldable pub digest_place : List ℕ → ℕ → Result ℕ AuthFault
digest_place pdu header = place_in (auth_tlv pdu header)

-- the sixteen octets from a place on are the digest of a PDU (own)
abbrev pub IsDigestPlace : List ℕ → ℕ → Type 0
IsDigestPlace pdu place = (header : ℕ) × IsPdu pdu header × (digest_place pdu header ≡ Ok place)

-- there is a TLV of a code other than 10 (own)
abbrev pub has_others : List ℕ → ℕ → Bool
has_others pdu header = list_any (λ tlv. not (tlv.code == 10)) (pdu_tlvs pdu header)

-- whether the purge has a body (own)
unfoldable pub has_purge_body : List ℕ → ℕ → Bool
has_purge_body pdu header = is_purge pdu && has_others pdu header

-- whether the digest is there (own)
unfoldable pub has_digest : List ℕ → List ℕ → ℕ → Bool
has_digest key pdu place = bytes_eq (hmac key (blanked pdu place)) (take 16 (drop place pdu))

-- the fault, None where the PDU is authentic (own)
abbrev pub fault_at : List ℕ → List ℕ → ℕ → Result ℕ AuthFault → Option AuthFault
fault_at key pdu header (Err fault) = Some fault
fault_at key pdu header (Ok place) =
    if has_purge_body pdu header then Some PurgeBody
    else (if has_digest key pdu place then None else Some Wrong)

unfoldable pub auth_fault : List ℕ → List ℕ → ℕ → Option AuthFault
auth_fault key pdu header = fault_at key pdu header (digest_place pdu header)
