-- What is read of octets is good: in the sizes that the model's laws ask for.
use Rattle.std.proofs.Common.{◌≡◌, ◌∙◌, ℕ, zero, suc, ◌+◌, ◌-◌, ◌*◌, ◌%◌, ◌^◌, ◌<◌, ◌≤◌, List, [], ◌∷◌, ◌++◌, length, take, drop, get_or, map, cond, eqb, ltb, leb, not, ◌&&◌, ◌||◌, Bool, true, false, Option, Some, None, Result, Ok, Err, refl, sym, subst, arith, length-take-le}
use Rattle.std.specs.Prelude.{flat_map}
use Rattle.std.specs.List.{AllByRecursion}
use Rattle.std.specs.Option.{ok_or}
use Rattle.std.specs.Result.{ok_prefix}
use Rattle.std.specs.Int.{from_be_bytes, w64}
use Rattle.std.proofs.lemmas.Bool.{leb-true, eqb-true, eqb-false, not-true, and_parts}
use Rattle.isis_base.specs.declared.entry.LspEntry.{LspEntry}
use Rattle.isis_base.specs.declared.pdu_kind.PduKind.{PduKind}
use Rattle.isis_base.specs.declared.pdu_kind.PduKind.TheVariants as kind
use Rattle.isis_base.specs.Fields.{u16_at, u32_at, lsp_at}
use Rattle.isis_base.specs.Identifiers.{lsp_octets, lsp_number}
use Rattle.isis_base.specs.PduKinds.{kind_at, header_length}
use Rattle.isis_tlv.specs.declared.fault.ValueFault.{ValueFault}
use Rattle.isis_tlv.specs.Walks.{before, walk, items_of}
use Rattle.isis_tlv.specs.Tlvs.{TlvView, StandsIn, tlv_list}
use Rattle.isis_tlv.specs.Items.{entry_at, entries_of}
use Rattle.isis_tlv.proofs.TlvLemmas.{tlvs-stand}
use Rattle.isis_pdu.specs.declared.fault.PduFault.{PduFault}
use Rattle.isis_pdu.specs.Layout.{length_at, body_at, value_at}
use Rattle.isis_pdu.specs.Table as table
use Rattle.isis_pdu.specs.Decoded.{decoded_by, decoded}
use Rattle.isis_pdu.proofs.ReadLemmas.{start-fault, later-fault}
use Rattle.model_router.specs.declared.drop_name.DropName.{DropName}
use Rattle.model_router.specs.Ranks.{is_live}
use Rattle.model_router.specs.Configs.{Config}
use Rattle.model_router.specs.Routers.{Circuit}
use Rattle.model_router.specs.SnpTable.{SnpEntry}
use Rattle.model_router.specs.declared.drop_name.DropName.TheVariants as drop_name
use Rattle.model_router.specs.Events.{Envelope, Message, Refused}
use Rattle.model_router.specs.Good.{IsGoodLsp, IsGoodMessage}
use Rattle.model_datagram.specs.Frames.{unframed}
use Rattle.model_router.specs.Numbers.{u48_of}
use Rattle.model_datagram.specs.Values.{items_if, items_in, entries_in, snp_entry}
use Rattle.model_datagram.specs.Tests.{Test, first_failing, tests_of}
use Rattle.model_datagram.specs.Reading.{rank_read, message, refused_or, read_pdu, read_frame, read}
use Rattle.model_datagram.proofs.ItemLemmas.{all-take, all-drop}

-- ---- octets below 256

abbrev pub Small : List ℕ → Type 0
Small octets = AllByRecursion (λ octet. octet < 256) octets

pub small-at : (octets : List ℕ) (i : ℕ) → Small octets → get_or octets i 0 < 256
small-at [] i small = omega arith
small-at (x ∷ octets) zero small = small.0
small-at (x ∷ octets) (suc i) small = small-at octets i small.1

all-append : {A : Type 0} (P : A → Type 0) (one two : List A) → AllByRecursion P one → AllByRecursion P two → AllByRecursion P (one ++ two)
all-append P [] two first second = second
all-append P (x ∷ one) two first second = (first.0, all-append P one two first.1 second)

pub small-take : (n : ℕ) (octets : List ℕ) → Small octets → Small (take n octets)
small-take n octets small = all-take (λ (octet : ℕ). octet < 256) n octets small

pub small-drop : (n : ℕ) (octets : List ℕ) → Small octets → Small (drop n octets)
small-drop n octets small = all-drop (λ (octet : ℕ). octet < 256) n octets small

eight-small : (octets : List ℕ) → Small octets → from_be_bytes w64 octets < 2 ^ 64
eight-small octets small =
    let a = small-at octets 0 small in
    let b = small-at octets 1 small in
    let c = small-at octets 2 small in
    let d = small-at octets 3 small in
    let e = small-at octets 4 small in
    let f = small-at octets 5 small in
    let g = small-at octets 6 small in
    let h = small-at octets 7 small in
    omega arith

pub lsp-small : (place : ℕ) (octets : List ℕ) → Small octets → lsp_number (lsp_at place octets) < 2 ^ 64
unfolding lsp_number
lsp-small place octets small =
    let system = small-take 6 (drop place octets) (small-drop place octets small) in
    let pseudonode = small-at octets (place + 6) small in
    let number = small-at octets (place + 7) small in
    eight-small (lsp_octets (lsp_at place octets))
    (all-append (λ (octet : ℕ). octet < 256) (take 6 (drop place octets) ++ get_or octets (place + 6) 0 ∷ []) (get_or octets (place + 7) 0 ∷ [])
    (all-append (λ (octet : ℕ). octet < 256) (take 6 (drop place octets)) (get_or octets (place + 6) 0 ∷ []) system (pseudonode, tt)) (number, tt))

u16-small : (place : ℕ) (octets : List ℕ) → Small octets → u16_at place octets < 65536
u16-small place octets small =
    let a = small-at octets place small in
    let b = small-at octets (place + 1) small in
    omega arith

u32-small : (place : ℕ) (octets : List ℕ) → Small octets → u32_at place octets < 4294967296
u32-small place octets small =
    let a = small-at octets place small in
    let b = small-at octets (place + 1) small in
    let c = small-at octets (place + 2) small in
    let d = small-at octets (place + 3) small in
    omega arith

-- ---- entries

abbrev IsSmall : Result LspEntry ValueFault → Type 0
IsSmall (Ok entry) = lsp_number entry.id < 2 ^ 64
IsSmall (Err fault) = Unit {0}

abbrev IsFound : Result (LspEntry × ℕ) ValueFault → Type 0
IsFound (Ok found) = lsp_number found.0.id < 2 ^ 64
IsFound (Err fault) = Unit {0}

before-small : (found : Result (LspEntry × ℕ) ValueFault) (after : ℕ → List (Result LspEntry ValueFault)) → IsFound found → ((count : ℕ) → AllByRecursion IsSmall (after count)) → AllByRecursion IsSmall (before found after)
before-small (Ok found) after is rest = (is, rest found.1)
before-small (Err fault) after is rest = (tt, tt)

walk-small : (first : ℕ → List ℕ → Result (LspEntry × ℕ) ValueFault) → ((place : ℕ) (octets : List ℕ) → Small octets → IsFound (first place octets)) → (n place : ℕ) (octets : List ℕ) → Small octets → AllByRecursion IsSmall (walk first n place octets)
walk-small first each zero place octets small = tt
walk-small first each (suc n) place [] small = tt
walk-small first each (suc n) place (x ∷ octets) small =
    before-small (first place (x ∷ octets)) (λ count. walk first n (place + count) (drop count (x ∷ octets))) (each place (x ∷ octets) small)
    (λ count. walk-small first each n (place + count) (drop count (x ∷ octets)) (small-drop count (x ∷ octets) small))

sized-small : (fits : Bool) (entry : LspEntry) (place : ℕ) → lsp_number entry.id < 2 ^ 64 → IsFound (ok_or (cond fits (Some (entry, 16)) None) (record { place = place }))
sized-small true entry place is = is
sized-small false entry place is = tt

entries-small : (value : List ℕ) → Small value → AllByRecursion IsSmall (entries_of value)
unfolding items_of
entries-small value small =
    walk-small (λ place octets. ok_or (entry_at octets) (record { place = place }))
    (λ place octets is. sized-small (leb 16 (length octets)) (record { lifetime = u16_at 0 octets; id = lsp_at 2 octets; number = u32_at 10 octets; checksum = u16_at 14 octets }) place (lsp-small 2 octets is))
    (length value) 0 value small

if-small : (test : Bool) (items : List (Result LspEntry ValueFault)) → AllByRecursion IsSmall items → AllByRecursion IsSmall (cond test items [])
if-small true items all = all
if-small false items all = tt

tlvs-small : (octets : List ℕ) (tlvs : List TlvView) → Small octets → AllByRecursion (StandsIn 0 octets) tlvs → AllByRecursion IsSmall (flat_map (items_if 9 entries_of) tlvs)
tlvs-small octets [] small stand = tt
tlvs-small octets (tlv ∷ tlvs) small stand =
    let there = tlv.place + 2 - 0 in
    let value : Small tlv.value = subst Small stand.0.value (small-take (length tlv.value) (drop there octets) (small-drop there octets small)) in
    all-append IsSmall (items_if 9 entries_of tlv) (flat_map (items_if 9 entries_of) tlvs)
    (if-small (eqb tlv.code 9) (entries_of tlv.value) (entries-small tlv.value value)) (tlvs-small octets tlvs small stand.1)

items-small : (octets : List ℕ) → Small octets → AllByRecursion IsSmall (entries_in octets)
unfolding items_in
items-small octets small = tlvs-small octets (tlv_list 0 octets) small (tlvs-stand octets 0)

listed-small : (items : List (Result LspEntry ValueFault)) → AllByRecursion IsSmall items → AllByRecursion (λ (h : SnpEntry). h.id < 2 ^ 64) (map snp_entry (ok_prefix items))
listed-small [] all = tt
listed-small (Ok entry ∷ items) all = (all.0, listed-small items all.1)
listed-small (Err fault ∷ items) all = tt

-- ---- LSPs

pub not-live : (number : ℕ) → is_live (2 * number + 1) ≡ true → ⊥
not-live number live =
    let even = eqb-true ((2 * number + 1) % 2) 0 (and_parts (ltb 0 (2 * number + 1)) (eqb ((2 * number + 1) % 2) 0) live).1 in
    omega arith

good-lsp : (id number lifetime checksum flags : ℕ) (octets : List ℕ) (holds : Bool) → id < 2 ^ 64 → number < 4294967296 → lifetime < 65536 → checksum < 65536 → not (eqb number 0) ≡ true → (eqb lifetime 0 || (not (eqb checksum 0) && holds)) ≡ true → 27 ≤ length octets → IsGoodLsp (record { id = id; rank = rank_read number lifetime; checksum = checksum; flags = flags; left = lifetime; octets = octets })
good-lsp id number lifetime checksum flags octets holds small fits brief word some summed header =
    let positive : number ≡ 0 → ⊥ = eqb-false number 0 (not-true (eqb number 0) some) in
    elim (eqb lifetime 0) as (λ t. eqb lifetime 0 ≡ t → (t || (not (eqb checksum 0) && holds)) ≡ true → IsGoodLsp (record { id = id; rank = cond t (2 * number + 1) (2 * number); checksum = checksum; flags = flags; left = lifetime; octets = octets })) [
      | true ↦ λ dead sums. record {
        id = small;
        some = omega arith;
        bounded = omega arith;
        left = λ live. absurd (not-live number live);
        fits = omega (arith, brief);
        word = omega (arith, word);
        header = header;
        summed = λ live. absurd (not-live number live);
      }
      | false ↦ λ lives sums.
          let left : lifetime ≡ 0 → ⊥ = eqb-false lifetime 0 lives in
          let sum : checksum ≡ 0 → ⊥ = eqb-false checksum 0 (not-true (eqb checksum 0) (and_parts (not (eqb checksum 0)) holds sums).0) in
          record {
            id = small;
            some = omega arith;
            bounded = omega arith;
            left = λ live. omega arith;
            fits = omega (arith, brief);
            word = omega (arith, word);
            header = header;
            summed = λ live. omega arith;
          }
    ] refl summed

-- ---- PDUs

pub all-held : (tests : List Test) → first_failing tests ≡ None → AllByRecursion (λ test. test.holds ≡ true) tests
all-held [] none = tt
all-held (test ∷ tests) none =
    elim (test.holds) as (λ t. test.holds ≡ t → cond t (first_failing tests) (Some test.cause) ≡ None → AllByRecursion (λ test. test.holds ≡ true) (test ∷ tests)) [
      | true ↦ λ h e. (h, all-held tests e)
      | false ↦ λ h e. cc
    ] refl none

pub all-passed : (tests : List table.Test) → table.first_failing tests ≡ None → AllByRecursion (λ (test : table.Test). test.holds ≡ true) tests
all-passed [] none = tt
all-passed (test ∷ tests) none =
    elim (test.holds) as (λ t. test.holds ≡ t → cond t (table.first_failing tests) (Some test.fault) ≡ None → AllByRecursion (λ (test : table.Test). test.holds ≡ true) (test ∷ tests)) [
      | true ↦ λ h e. (h, all-passed tests e)
      | false ↦ λ h e. cc
    ] refl none

pub start-passed : (octets : List ℕ) (found : Option PduFault) → table.first_failing (table.start_tests octets) ≡ found → table.first_fault octets ≡ None → None ≡ table.first_failing (table.start_tests octets)
start-passed octets None is none = sym is
start-passed octets (Some fault) is none = let other = start-fault octets fault (sym is) in cc

-- a PDU without a fault has its header and all its octets
pub whole-length : (octets : List ℕ) (kind : PduKind) → table.first_fault octets ≡ None → kind_at octets ≡ Some kind → header_length kind ≤ length (take (length_at kind octets) octets)
whole-length octets kind none known =
    let start = start-passed octets (table.first_failing (table.start_tests octets)) refl none in
    let tests = all-passed (table.kind_tests kind octets) (sym (later-fault octets kind known start) ∙ none) in
    let n = length_at kind octets in
    let parts = and_parts (leb (header_length kind) n) (leb n (length octets)) tests.1.1.1.0 in
    let least = leb-true (header_length kind) n parts.0 in
    let within = leb-true n (length octets) parts.1 in
    let size = length-take-le n octets within in
    omega arith

-- What holds of a refusal, and of what each PDU without a fault says where its tests hold, holds of all that is read.
module _ (P : Message → Type 0) (refused : (cause : DropName) → P (Refused cause)) (by : Config) (on : Circuit) (value : (from : Envelope) (octets : List ℕ) (kind : PduKind) → Small octets → table.first_fault octets ≡ None → kind_at octets ≡ Some kind → first_failing (tests_of by on (value_at kind octets (body_at kind octets (length_at kind octets))) (take (length_at kind octets) octets)) ≡ None → P (message by.system from (value_at kind octets (body_at kind octets (length_at kind octets))) (take (length_at kind octets) octets))) where
  of-tests : (found : Option DropName) (m : Message) → (found ≡ None → P m) → P (refused_or found m)
  of-tests None m said = said refl
  of-tests (Some cause) m said = refused cause

  of-decoded : (from : Envelope) (octets : List ℕ) → Small octets → (fault : Option PduFault) (found : Option PduKind) → table.first_fault octets ≡ fault → kind_at octets ≡ found → P (read_pdu by on from octets (decoded_by fault found octets))
  of-decoded from octets small (Some fault) found none known = refused _
  of-decoded from octets small None None none known = refused _
  of-decoded from octets small None (Some kind) none known = of-tests _ _ (value from octets kind small none known)

  of-pdu : (from : Envelope) (octets : List ℕ) → Small octets → P (read_pdu by on from octets (decoded octets))
  unfolding decoded
  of-pdu from octets small = of-decoded from octets small (table.first_fault octets) (kind_at octets) refl refl

  of-frame : (datagram : List ℕ) → Small datagram → (old test : Bool) → P (read_frame by on (cond old (Err drop_name.Version) (cond test (Ok (record { snpa = u48_of (drop 4 datagram); boot = u32_at 10 datagram }, drop 14 datagram)) (Err drop_name.Frame))))
  of-frame datagram small true test = refused _
  of-frame datagram small false true = of-pdu (record { snpa = u48_of (drop 4 datagram); boot = u32_at 10 datagram }) (drop 14 datagram) (small-drop 14 datagram small)
  of-frame datagram small false false = refused _

  pub of-read : (datagram : List ℕ) → Small datagram → P (read by on datagram)
  unfolding read unframed
  of-read datagram small = of-frame datagram small _ _

good-value : (by : Config) (on : Circuit) (from : Envelope) (octets : List ℕ) (kind : PduKind) → Small octets → table.first_fault octets ≡ None → kind_at octets ≡ Some kind → first_failing (tests_of by on (value_at kind octets (body_at kind octets (length_at kind octets))) (take (length_at kind octets) octets)) ≡ None → IsGoodMessage (message by.system from (value_at kind octets (body_at kind octets (length_at kind octets))) (take (length_at kind octets) octets))
good-value by on from octets (kind.LanHello level) small faultless known none = tt
good-value by on from octets kind.PointHello small faultless known none = tt
good-value by on from octets (kind.Lsp level) small faultless known none =
    let its = kind.Lsp level in
    let n = length_at its octets in
    let tests = all-held (tests_of by on (value_at its octets (body_at its octets n)) (take n octets)) none in
    good-lsp (lsp_number (lsp_at 12 octets)) (u32_at 20 octets) (u16_at 10 octets) (u16_at 24 octets) (get_or octets 26 0) (take n octets) _ (lsp-small 12 octets small) (u32-small 20 octets small) (u16-small 10 octets small) (u16-small 24 octets small) tests.1.1.1.1.1.0 tests.1.1.1.1.1.1.0 (whole-length octets its faultless known)
good-value by on from octets (kind.Csnp level) small faultless known none =
    let its = kind.Csnp level in
    let body = body_at its octets (length_at its octets) in
    listed-small (entries_in body) (items-small body (small-take (length_at its octets - 33) (drop 33 octets) (small-drop 33 octets small)))
good-value by on from octets (kind.Psnp level) small faultless known none =
    let its = kind.Psnp level in
    let body = body_at its octets (length_at its octets) in
    listed-small (entries_in body) (items-small body (small-take (length_at its octets - 17) (drop 17 octets) (small-drop 17 octets small)))

pub good-read : (by : Config) (on : Circuit) (datagram : List ℕ) → Small datagram → IsGoodMessage (read by on datagram)
good-read by on = of-read IsGoodMessage (λ cause. tt) by on (good-value by on)
