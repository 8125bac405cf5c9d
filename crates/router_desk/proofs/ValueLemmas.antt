-- A value's fault lies in it.
use Rattle.std.proofs.Common.{◌≡◌, ℕ, zero, suc, ◌+◌, ◌≤◌, ◌<◌, List, [], ◌∷◌, length, drop, cond, eqb, Bool, true, false, Option, Some, None, Result, sym, subst, arith, length-drop}
use Rattle.std.specs.Prelude.{find}
use Rattle.std.specs.List.{AllByRecursion}
use Rattle.std.specs.Option.{IfSome, ok_or, is_some}
use Rattle.std.specs.Result.{result_err}
use Rattle.isis_base.specs.declared.pdu_kind.PduKind.{PduKind}
use Rattle.isis_base.specs.declared.pdu_kind.PduKind.TheVariants as kind
use Rattle.isis_tlv.specs.declared.fault.ValueFault.{ValueFault}
use Rattle.isis_tlv.specs.declared.three_way.ThreeWay.{ThreeWay}
use Rattle.isis_tlv.specs.Walks.{before, walk, items_of, fault_of}
use Rattle.isis_tlv.specs.Tlvs.{TlvView, StandsIn, tlv_list}
use Rattle.isis_tlv.proofs.TlvLemmas.{tlvs-stand}
use Rattle.isis_tlv.specs.Items.{values_of, area_at, snpa_at, entry_at}
use Rattle.router_desk.specs.Values.{hello_fault, snp_fault, value_fault, faulty_tlv}

-- the fault of octets that begin at a place is at one of them
abbrev pub IsIn : ℕ → ℕ → Option ValueFault → Type 0
IsIn place size fault = IfSome fault (λ fault. (0 < size) × (fault.place < place + size))

farther : (place size count rest : ℕ) (fault : Option ValueFault) → (0 < rest → count + rest ≡ size) → IsIn (place + count) rest fault → IsIn place size fault
farther place size count rest None same is = tt
farther place size count rest (Some fault) same is =
    let some = is.0 in
    let below = is.1 in
    let sum = same some in
    (omega arith, omega arith)

before-in : {X : Type 0} (found : Option (X × ℕ)) (place size : ℕ) (after : ℕ → List (Result X ValueFault)) → 0 < size → ((count : ℕ) → IsIn place size (fault_of (after count))) → IsIn place size (fault_of (before (ok_or found (record { place = place })) after))
before-in None place size after some rest = (some, omega arith)
before-in (Some found) place size after some rest = rest found.1

dropped : (count : ℕ) (octets : List ℕ) → 0 < length (drop count octets) → count + length (drop count octets) ≡ length octets
dropped count octets some = let size = length-drop count octets in omega arith

walk-in : {X : Type 0} (first : List ℕ → Option (X × ℕ)) (n place : ℕ) (octets : List ℕ) → IsIn place (length octets) (fault_of (walk (λ at item. ok_or (first item) (record { place = at })) n place octets))
walk-in first zero place octets = tt
walk-in first (suc n) place [] = tt
walk-in first (suc n) place (x ∷ octets) =
    before-in (first (x ∷ octets)) place (length (x ∷ octets)) (λ count. walk (λ at item. ok_or (first item) (record { place = at })) n (place + count) (drop count (x ∷ octets))) (omega arith)
    (λ count. farther place (length (x ∷ octets)) count (length (drop count (x ∷ octets))) _ (dropped count (x ∷ octets)) (walk-in first n (place + count) (drop count (x ∷ octets))))

-- the same of a value, counted in it
abbrev pub IsInValue : List ℕ → Option ValueFault → Type 0
IsInValue value fault = IfSome fault (λ fault. fault.place ≤ length value)

in-value : (value : List ℕ) (fault : Option ValueFault) → IsIn 0 (length value) fault → IsInValue value fault
in-value value None is = tt
in-value value (Some fault) is = let below = is.1 in omega arith

values-in : {X : Type 0} (first : List ℕ → Option (X × ℕ)) (value : List ℕ) → IsInValue value (fault_of (values_of first 0 value))
unfolding items_of
values-in first value = in-value value _ (walk-in first (length value) 0 value)

shake-in : (value : List ℕ) (found : Option ThreeWay) → IsInValue value (result_err (ok_or found (record { place = 0 })))
shake-in value None = omega arith
shake-in value (Some found) = tt

either-in : (value : List ℕ) (test : Bool) (one two : Option ValueFault) → IsInValue value one → IsInValue value two → IsInValue value (cond test one two)
either-in value true one two first second = first
either-in value false one two first second = second

hello-in : (tlv : TlvView) → IsInValue tlv.value (hello_fault tlv)
hello-in tlv =
    either-in tlv.value (eqb tlv.code 1) _ _ (values-in area_at tlv.value)
    (either-in tlv.value (eqb tlv.code 6) _ _ (values-in snpa_at tlv.value)
    (either-in tlv.value (eqb tlv.code 240) _ None (shake-in tlv.value _) tt))

snp-in : (tlv : TlvView) → IsInValue tlv.value (snp_fault tlv)
snp-in tlv = either-in tlv.value (eqb tlv.code 9) _ None (values-in entry_at tlv.value) tt

pub value-in : (its : PduKind) (tlv : TlvView) → IsInValue tlv.value (value_fault its tlv)
value-in (kind.LanHello level) tlv = hello-in tlv
value-in kind.PointHello tlv = hello-in tlv
value-in (kind.Lsp level) tlv = tt
value-in (kind.Csnp level) tlv = snp-in tlv
value-in (kind.Psnp level) tlv = snp-in tlv

-- what holds of each item holds of the one that is found
found-all : {X : Type 0} (P : X → Type 0) (test : X → Bool) (items : List X) (item : X) → AllByRecursion P items → find test items ≡ Some item → P item
found-all P test [] item all is = cc
found-all P test (first ∷ items) item all is =
    elim (test first) as (λ t. cond t (Some first) (find test items) ≡ Some item → P item) [
      | true ↦ λ e. let same : first ≡ item = cc in subst P same all.0
      | false ↦ λ e. found-all P test items item all.1 e
    ] is

-- the TLV that is found ends in the octets
pub faulty-within : (its : PduKind) (tlvs : List ℕ) (tlv : TlvView) → Some tlv ≡ faulty_tlv its tlvs → tlv.place + 2 + length tlv.value ≤ length tlvs
faulty-within its tlvs tlv is =
    let stands = found-all (StandsIn 0 tlvs) (λ tlv. is_some (value_fault its tlv)) (tlv_list 0 tlvs) tlv (tlvs-stand tlvs 0) (sym is) in
    let within = stands.within in
    omega arith
