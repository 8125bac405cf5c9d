-- TLVs: a code, a length and a value, one after another.
use Rattle.std.specs.Prelude.{◌≡◌, ℕ, ◌+◌, ◌-◌, ◌≤◌, nat_le, List, [], ◌∷◌, length, take, drop, None, Result, Ok, Err, if◌then◌else◌}
use Rattle.std.specs.Result.{ok_prefix}
use Rattle.isis_tlv.specs.declared.tlv.TlvFault.{TlvFault}
use Rattle.isis_tlv.specs.declared.tlv.TlvFault.TheVariants.{Header, Past}
use Rattle.isis_tlv.specs.Walks.{items_of, fault_of}

-- a TLV without where its value lies in memory (own)
pub record TlvView : Type 0 where
  pub code : ℕ
  pub place : ℕ
  pub value : List ℕ

-- a code, a length and as many octets (ISO 10589 9.5)
abbrev pub tlv_octets : ℕ → List ℕ → List ℕ
tlv_octets code value = code ∷ length value ∷ value

-- the TLV that octets begin with, counted at a place, and the number of its octets; or the fault there (ISO 10589 9.5)
abbrev pub tlv_at : ℕ → List ℕ → Result (TlvView × ℕ) TlvFault
tlv_at place [] = Err (Header place)
tlv_at place (code ∷ []) = Err (Header place)
tlv_at place (code ∷ count ∷ octets) =
    if nat_le count (length octets)
    then Ok (record { code = code; place = place; value = take count octets }, 2 + count)
    else Err (Past place)

-- the TLVs of octets that begin at a place, and the fault that ends them (own)
abbrev pub tlvs_of : ℕ → List ℕ → List (Result TlvView TlvFault)
tlvs_of place octets = items_of tlv_at place octets

-- the octets are TLVs to their end (ISO 10589 9.5)
abbrev pub AreTlvs : List ℕ → Type 0
AreTlvs octets = fault_of (tlvs_of 0 octets) ≡ None

-- the TLVs before a fault (own)
abbrev pub tlv_list : ℕ → List ℕ → List TlvView
tlv_list place octets = ok_prefix (tlvs_of place octets)

-- the TLV stands where it says in octets that begin at a place, and its value is a slice of them (own)
pub record StandsIn (place : ℕ) (octets : List ℕ) (tlv : TlvView) : Type 0 where
  pub from : place ≤ tlv.place
  pub within : tlv.place + 2 + length tlv.value ≤ place + length octets
  pub whole : take (2 + length tlv.value) (drop (tlv.place - place) octets)
      ≡ tlv_octets tlv.code tlv.value
  pub value : take (length tlv.value) (drop (tlv.place + 2 - place) octets) ≡ tlv.value
