-- PDUs with their authentication, where there is a key (RFC 5304 2, 3).
use Rattle.std.specs.Prelude.{ℕ, ◌+◌, List, [], ◌∷◌, ◌++◌, replicate, Option, Some, None}
use Rattle.isis_base.specs.PduKinds.{header_length}
use Rattle.isis_tlv.specs.Tlvs.{tlv_octets}
use Rattle.isis_pdu.specs.Views.{PduView}
use Rattle.isis_pdu.specs.Layout.{kind_of}
use Rattle.isis_pdu.specs.Spelling.{octets_of_pdu}
use Rattle.hmac_auth.specs.Hmac.{hmac}
use Rattle.hmac_auth.specs.Pdus.{blanked}

-- the authentication TLV of a digest: code 10, type 54 (RFC 5304 2)
abbrev pub auth_octets : List ℕ → List ℕ
auth_octets digest = tlv_octets 10 (54 ∷ digest)

-- the digest of octets whose authentication TLV stands first behind a header of so many octets (RFC
-- 5304 2)
abbrev pub digest_of : List ℕ → ℕ → List ℕ → List ℕ
digest_of key header octets = hmac key (blanked octets (header + 3))

-- the TLVs of a PDU, of which authentication is the first where there is a key; `pdu` is its header
-- (RFC 5304 2)
abbrev pub signed_tlvs : Option (List ℕ) → (List ℕ → PduView) → List ℕ → List ℕ
signed_tlvs None pdu tlvs = tlvs
signed_tlvs (Some key) pdu tlvs =
    let blank = octets_of_pdu (pdu (auth_octets (replicate 16 0) ++ tlvs)) in
    auth_octets (digest_of key (header_length (kind_of (pdu []))) blank) ++ tlvs

-- the octets of a PDU with these TLVs (RFC 5304 2)
unfoldable pub signed : Option (List ℕ) → (List ℕ → PduView) → List ℕ → List ℕ
signed key pdu tlvs = octets_of_pdu (pdu (signed_tlvs key pdu tlvs))
