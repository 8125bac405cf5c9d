-- The first TLV of code 10.
use Rattle.std.proofs.Common.{◌≡◌, ℕ, ◌+◌, ◌≤◌, List, [], ◌∷◌, length, drop, get_or, Bool, true, false, cond, eqb, ◌&&◌, Option, Some, None, Ok, Err, refl, sym, subst, arith, length-drop}
use Rattle.std.specs.Prelude.{find}
use Rattle.std.specs.List.{AllByRecursion}
use Rattle.std.proofs.lemmas.Bool.{and_parts, eqb-true}
use Rattle.isis_tlv.specs.Tlvs.{TlvView, StandsIn, tlv_list}
use Rattle.isis_tlv.proofs.TlvLemmas.{tlvs-stand}
use Rattle.hmac_auth.specs.declared.fault.AuthFault.TheVariants.{OtherType}
use Rattle.hmac_auth.specs.Auth.{auth_tlv, place_in, digest_place}

-- what holds of each item holds of the one that is found
found-all : {X : Type 0} (P : X → Type 0) (test : X → Bool) (items : List X) (item : X) → AllByRecursion P items → find test items ≡ Some item → P item
found-all P test [] item all is = cc
found-all P test (first ∷ items) item all is =
    elim (test first) as (λ t. cond t (Some first) (find test items) ≡ Some item → P item) [
      | true ↦ λ e. let same : first ≡ item = cc in subst P same all.0
      | false ↦ λ e. found-all P test items item all.1 e
    ] is

abbrev pub is_auth : TlvView → Bool
is_auth tlv = eqb tlv.code 10

-- the TLV that is found lies in the PDU, behind the header
pub record Lies (pdu : List ℕ) (header : ℕ) (tlv : TlvView) : Type 0 where
  pub behind : header ≤ tlv.place
  pub within : tlv.place + 2 + length tlv.value ≤ length pdu

pub auth-lies : (pdu : List ℕ) (header : ℕ) (tlv : TlvView) → header ≤ length pdu → Some tlv ≡ auth_tlv pdu header → Lies pdu header tlv
auth-lies pdu header tlv within is =
    let octets = drop header pdu in
    let stands = found-all (StandsIn header octets) is_auth (tlv_list header octets) tlv (tlvs-stand octets header) (sym is) in
    let from = stands.from in
    let end = stands.within in
    let size = length-drop header pdu in
    record { behind = from; within = omega arith }

-- the digest is of sixteen octets in the octets that begin at a place
pub record Within (place : ℕ) (octets : List ℕ) (digest : ℕ) : Type 0 where
  pub behind : place + 3 ≤ digest
  pub within : digest + 16 ≤ place + length octets

within-found : (place digest : ℕ) (octets : List ℕ) (found : Option TlvView) → ((tlv : TlvView) → found ≡ Some tlv → StandsIn place octets tlv) → place_in found ≡ Ok digest → Within place octets digest
within-found place digest octets None stands is = cc
within-found place digest octets (Some tlv) stands is =
    let s = stands tlv refl in
    elim (eqb (length tlv.value) 17 && eqb (get_or tlv.value 0 0) 54) as (λ t. eqb (length tlv.value) 17 && eqb (get_or tlv.value 0 0) 54 ≡ t → cond t (Ok (tlv.place + 3)) (Err OtherType) ≡ Ok digest → Within place octets digest) [
      | true ↦ λ hmac e.
          let size = eqb-true (length tlv.value) 17 (and_parts _ _ hmac).0 in
          let same : tlv.place + 3 ≡ digest = cc in
          let from = s.from in
          let within = s.within in
          record { behind = omega arith; within = omega arith }
      | false ↦ λ hmac e. cc
    ] refl is

pub place-within : (place digest : ℕ) (octets : List ℕ) → place_in (find is_auth (tlv_list place octets)) ≡ Ok digest → Within place octets digest
place-within place digest octets is =
    within-found place digest octets (find is_auth (tlv_list place octets))
    (λ tlv found. found-all (StandsIn place octets) is_auth (tlv_list place octets) tlv (tlvs-stand octets place) found) is

-- the same in a PDU
pub digest-within : (pdu : List ℕ) (header digest : ℕ) → header ≤ length pdu → digest_place pdu header ≡ Ok digest → (header + 3 ≤ digest) × (digest + 16 ≤ length pdu)
unfolding digest_place
digest-within pdu header digest within is =
    let w = place-within header digest (drop header pdu) is in
    let size = length-drop header pdu in
    (w.behind, omega arith)
