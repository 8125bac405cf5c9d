-- A TLV has at least one octet.
use Rattle.std.proofs.Common.{ℕ, ◌+◌, List, [], ◌∷◌, length, take, true, false, cond, leb, Ok, Err, arith}
use Rattle.isis_tlv.proofs.WalkLemmas.{Takes}
use Rattle.isis_tlv.specs.declared.tlv.TlvFault.{TlvFault}
use Rattle.isis_tlv.specs.declared.tlv.TlvFault.TheVariants.{Past}
use Rattle.isis_tlv.specs.Tlvs.{TlvView, tlv_at}

pub tlv-takes_one : (place : ℕ) (octets : List ℕ) → Takes (tlv_at place octets)
tlv-takes_one place [] = tt
tlv-takes_one place (code ∷ []) = tt
tlv-takes_one place (code ∷ count ∷ octets) =
    elim (leb count (length octets)) as (λ fits. Takes {X = TlvView} {F = TlvFault} (cond fits (Ok (record { code = code; place = place; value = take count octets }, 2 + count)) (Err (Past place)))) [ true ↦ omega arith | false ↦ tt ]
