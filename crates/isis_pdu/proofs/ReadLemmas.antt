-- The tests accept just the octets that read as a value.
use Rattle.std.proofs.Common.{◌≡◌, ◌∙◌, ℕ, ◌%◌, ◌≤◌, List, [], ◌∷◌, ◌++◌, length, get_or, Bool, true, false, cond, not, eqb, leb, ◌&&◌, ◌||◌, ◌⊎◌, inl, inr, ⊎_elim, ◌↔◌, Option, Some, None, Result, Ok, Err, arith, refl, sym, ap, subst}
use Rattle.std.specs.List.{AllByRecursion, find}
use Rattle.std.specs.Option.{is_some, is_none, option_map}
use Rattle.std.specs.Result.{result_err}
use Rattle.std.proofs.lemmas.Bool.{leb-true, le-leb, eqb-true, eqb-false, eq-eqb, ne_eqb, not-true, not_from_false, or_cases, or_left, or_right, and_parts, and_from, cond-true}
use Rattle.isis_base.specs.declared.level.Level.TheVariants as level
use Rattle.isis_tlv.specs.declared.tlv.TlvFault.{TlvFault}
use Rattle.isis_tlv.specs.Walks.{fault_of}
use Rattle.isis_tlv.specs.Tlvs.{AreTlvs, tlvs_of}
use Rattle.isis_tlv.proofs.TlvLemmas.{fault-anywhere}
use Rattle.isis_base.specs.declared.pdu_kind.PduKind.{PduKind}
use Rattle.isis_base.specs.declared.pdu_kind.PduKind.TheVariants as kind
use Rattle.isis_pdu.specs.declared.fault.PduFault.{PduFault}
use Rattle.isis_pdu.specs.declared.pdu.Pdu.{Pdu}
use Rattle.isis_pdu.specs.Views.{PduView, pdu_view, tlvs_of_pdu, decoded_view}
use Rattle.isis_base.specs.PduKinds.{type_number, kinds, kind_of_number, kind_at, header_length, is_hello}
use Rattle.isis_pdu.specs.Layout.{kind_of, length_at, body_at, value_at}
use Rattle.isis_pdu.specs.Table.{Test, first_failing, place_of_fault, tlv_fault, start_tests, kind_tests, tests_of, first_fault}
use Rattle.isis_pdu.specs.Reading.{ReadsAs, Begins}
use Rattle.isis_pdu.specs.Decoded.{decoded_by, decoded}

-- ---- the table

abbrev Holds : Test → Type 0
Holds test = test.holds ≡ true

all-hold : (tests : List Test) → first_failing tests ≡ None → AllByRecursion Holds tests
all-hold [] none = tt
all-hold (test ∷ tests) none =
    elim (test.holds) as (λ b. test.holds ≡ b → cond b (first_failing tests) (Some test.fault) ≡ None → AllByRecursion Holds (test ∷ tests)) [
      | true ↦ λ h e. (h, all-hold tests e)
      | false ↦ λ h e. cc
    ] refl none

none-fails : (tests : List Test) → AllByRecursion Holds tests → first_failing tests ≡ None
none-fails [] all = refl
none-fails (test ∷ tests) all = cond-true test.holds (first_failing tests) (Some test.fault) all.0 ∙ none-fails tests all.1

-- a fault among the first tests is the fault, and without one it is that of the others
fails-first : (first rest : List Test) (fault : PduFault) → first_failing first ≡ Some fault → first_failing (first ++ rest) ≡ Some fault
fails-first [] rest fault e = cc
fails-first (test ∷ first) rest fault e =
    elim (test.holds) as (λ b. cond b (first_failing first) (Some test.fault) ≡ Some fault → cond b (first_failing (first ++ rest)) (Some test.fault) ≡ Some fault) [
      | true ↦ λ h. fails-first first rest fault h
      | false ↦ λ h. h
    ] e

fails-rest : (first rest : List Test) → first_failing first ≡ None → first_failing (first ++ rest) ≡ first_failing rest
fails-rest [] rest e = refl
fails-rest (test ∷ first) rest e =
    elim (test.holds) as (λ b. cond b (first_failing first) (Some test.fault) ≡ None → cond b (first_failing (first ++ rest)) (Some test.fault) ≡ first_failing rest) [
      | true ↦ λ h. fails-rest first rest h
      | false ↦ λ h. cc
    ] e

start-fails : (found : Option PduKind) (octets : List ℕ) (fault : PduFault) → first_failing (start_tests octets) ≡ Some fault → first_failing (tests_of found octets) ≡ Some fault
start-fails None octets fault e = e
start-fails (Some kind) octets fault e = fails-first (start_tests octets) (kind_tests kind octets) fault e

pub start-fault : (octets : List ℕ) (fault : PduFault) → Some fault ≡ first_failing (start_tests octets) → Some fault ≡ first_fault octets
unfolding first_fault
start-fault octets fault e = sym (start-fails (kind_at octets) octets fault (sym e))

pub later-fault : (octets : List ℕ) (kind : PduKind) → kind_at octets ≡ Some kind → None ≡ first_failing (start_tests octets) → first_fault octets ≡ first_failing (kind_tests kind octets)
unfolding first_fault
later-fault octets kind is e =
    ap (λ (found : Option PduKind). first_failing (tests_of found octets)) is
    ∙ fails-rest (start_tests octets) (kind_tests kind octets) (sym e)

-- ---- types

found-passes : {X : Type 0} (test : X → Bool) (items : List X) (item : X) → find test items ≡ Some item → test item ≡ true
found-passes test [] item e = cc
found-passes test (first ∷ items) item e =
    elim (test first) as (λ b. test first ≡ b → cond b (Some first) (find test items) ≡ Some item → test item ≡ true) [
      | true ↦ λ h same. let one : first ≡ item = cc in subst (λ x. test x ≡ true) one h
      | false ↦ λ h same. found-passes test items item same
    ] refl e

number-of : (number : ℕ) (kind : PduKind) → kind_of_number number ≡ Some kind → type_number kind ≡ number
unfolding kind_of_number
number-of number kind e = eqb-true (type_number kind) number (found-passes (λ (k : PduKind). eqb (type_number k) number) kinds kind e)

pub kind-reads_back : (kind : PduKind) → kind_of_number (type_number kind) ≡ Some kind
unfolding kind_of_number
kind-reads_back (kind.LanHello level.One) = refl
kind-reads_back (kind.LanHello level.Two) = refl
kind-reads_back kind.PointHello = refl
kind-reads_back (kind.Lsp level.One) = refl
kind-reads_back (kind.Lsp level.Two) = refl
kind-reads_back (kind.Csnp level.One) = refl
kind-reads_back (kind.Csnp level.Two) = refl
kind-reads_back (kind.Psnp level.One) = refl
kind-reads_back (kind.Psnp level.Two) = refl

kind-of_value : (kind : PduKind) (octets tlvs : List ℕ) → kind_of (value_at kind octets tlvs) ≡ kind
kind-of_value (kind.LanHello level) octets tlvs = refl
kind-of_value kind.PointHello octets tlvs = refl
kind-of_value (kind.Lsp level) octets tlvs = refl
kind-of_value (kind.Csnp level) octets tlvs = refl
kind-of_value (kind.Psnp level) octets tlvs = refl

pub header-least : (kind : PduKind) → 17 ≤ header_length kind
header-least (kind.LanHello level) = omega arith
header-least kind.PointHello = omega arith
header-least (kind.Lsp level) = omega arith
header-least (kind.Csnp level) = omega arith
header-least (kind.Psnp level) = omega arith

pub tlvs-of_value : (kind : PduKind) (octets tlvs : List ℕ) → tlvs_of_pdu (value_at kind octets tlvs) ≡ tlvs
tlvs-of_value (kind.LanHello level) octets tlvs = refl
tlvs-of_value kind.PointHello octets tlvs = refl
tlvs-of_value (kind.Lsp level) octets tlvs = refl
tlvs-of_value (kind.Csnp level) octets tlvs = refl
tlvs-of_value (kind.Psnp level) octets tlvs = refl

-- ---- rows

either-holds : (n a b : ℕ) → (eqb n a || eqb n b) ≡ true → (n ≡ a) ⊎ (n ≡ b)
either-holds n a b h = ⊎_elim (λ e. inl (eqb-true n a e)) (λ e. inr (eqb-true n b e)) (or_cases (eqb n a) (eqb n b) h)

holds-either : (n a b : ℕ) → (n ≡ a) ⊎ (n ≡ b) → (eqb n a || eqb n b) ≡ true
holds-either n a b h = ⊎_elim (λ e. or_left (eqb n a) (eqb n b) (eq-eqb n a e)) (λ e. or_right (eqb n a) (eqb n b) (eq-eqb n b e)) h

unmapped : (found : Option TlvFault) → is_none (option_map place_of_fault found) ≡ true → found ≡ None
unmapped None h = refl
unmapped (Some fault) h = cc

tlvs-hold : (place : ℕ) (octets : List ℕ) → is_none (tlv_fault place octets) ≡ true → AreTlvs octets
tlvs-hold place octets h = fault-anywhere octets place 0 (unmapped (fault_of (tlvs_of place octets)) h)

hold-tlvs : (place : ℕ) (octets : List ℕ) → AreTlvs octets → is_none (tlv_fault place octets) ≡ true
hold-tlvs place octets are = ap (λ (found : Option TlvFault). is_none (option_map place_of_fault found)) (fault-anywhere octets 0 place are)

circuit-holds : (hello : Bool) (levels : ℕ) → (hello ≡ true → levels ≡ 0 → ⊥) → not (hello && eqb levels 0) ≡ true
circuit-holds true levels some = not_from_false (eqb levels 0) (ne_eqb levels 0 (some refl))
circuit-holds false levels some = refl

holds-circuit : (hello : Bool) (levels : ℕ) → not (hello && eqb levels 0) ≡ true → hello ≡ true → levels ≡ 0 → ⊥
holds-circuit true levels h is zero = eqb-false levels 0 (not-true (eqb levels 0) h) zero
holds-circuit false levels h is zero = cc

-- ---- reading

module _ (octets : List ℕ) where
  -- where each test holds, the octets read as what the fields say
  reads-as : (kind : PduKind) (pdu : PduView) (n : ℕ) → length_at kind octets ≡ n → value_at kind octets (body_at kind octets n) ≡ pdu → kind_of pdu ≡ kind → kind_at octets ≡ Some kind → AllByRecursion Holds (start_tests octets) → AllByRecursion Holds (kind_tests kind octets) → ReadsAs octets pdu n
  reads-as kind pdu n size value same is start rest =
      let m = length_at kind octets in
      let body = subst (λ (m : ℕ). is_none (tlv_fault (header_length kind) (body_at kind octets m)) ≡ true) size rest.1.1.1.1.0 in
      let parts = and_parts (leb (header_length kind) m) (leb m (length octets)) rest.1.1.1.0 in
      let whose : tlvs_of_pdu pdu ≡ body_at kind octets n = sym (ap tlvs_of_pdu value) ∙ tlvs-of_value kind octets (body_at kind octets n) in
      record {
        discriminator = eqb-true _ _ start.1.0;
        header = eqb-true (get_or octets 1 0) (header_length kind) rest.0 ∙ sym (ap header_length same);
        version = eqb-true _ _ start.1.1.0;
        id_length = either-holds _ _ _ start.1.1.1.0;
        kind = sym (number-of (get_or octets 4 0 % 32) kind is) ∙ sym (ap type_number same);
        other_version = eqb-true _ _ start.1.1.1.1.1.0;
        areas = either-holds _ _ _ start.1.1.1.1.1.1.0;
        circuit_type = λ hello. holds-circuit (is_hello kind) (get_or octets 8 0 % 4) rest.1.1.0 (sym (ap is_hello same) ∙ hello);
        size = ap (λ (k : PduKind). length_at k octets) same ∙ size;
        least = subst (λ (k : PduKind). header_length k ≤ n) (sym same) (subst (λ (m : ℕ). header_length kind ≤ m) size (leb-true (header_length kind) m parts.0));
        value = ap (λ (k : PduKind). value_at k octets (body_at k octets n)) same ∙ value;
        tlvs = subst AreTlvs (sym whose) (tlvs-hold (header_length kind) (body_at kind octets n) body);
      }

  module _ (pdu : PduView) (n : ℕ) (reads : ReadsAs octets pdu n) (within : n ≤ length octets) where
    abbrev its : PduKind
    its = kind_of pdu

    kind-read : kind_at octets ≡ Some its
    kind-read = ap kind_of_number reads.kind ∙ kind-reads_back its

    all-octets : 8 ≤ length octets
    all-octets =
        let least = reads.least in
        let header = header-least its in
        omega arith

    start-holds : AllByRecursion Holds (start_tests octets)
    start-holds = (
      le-leb 8 (length octets) all-octets,
      (
        eq-eqb _ _ reads.discriminator,
        (
          eq-eqb _ _ reads.version,
          (
            holds-either _ _ _ reads.id_length,
            (
              ap is_some kind-read,
              (
                eq-eqb _ _ reads.other_version,
                (holds-either _ _ _ reads.areas, tt),
              ),
            ),
          ),
        ),
      ),
    )

    rest-holds : AllByRecursion Holds (kind_tests its octets)
    rest-holds =
        let m = length_at its octets in
        let size : m ≡ n = reads.size in
        let least : header_length its ≤ n = reads.least in
        let whose : tlvs_of_pdu pdu ≡ body_at its octets m = sym (ap tlvs_of_pdu reads.value) ∙ tlvs-of_value its octets (body_at its octets n) ∙ ap (body_at its octets) (sym size) in (
          eq-eqb _ _ reads.header,
          (
            le-leb (header_length its) (length octets) (omega arith),
            (
              circuit-holds (is_hello its) (get_or octets 8 0 % 4) reads.circuit_type,
              (
                and_from _ _ (le-leb (header_length its) m (omega arith)) (le-leb m (length octets) (omega arith)),
                (hold-tlvs (header_length its) (body_at its octets m) (subst AreTlvs whose reads.tlvs), tt),
              ),
            ),
          ),
        )

    start-none : first_failing (start_tests octets) ≡ None
    start-none = none-fails (start_tests octets) start-holds

    rest-none : first_failing (kind_tests its octets) ≡ None
    rest-none = none-fails (kind_tests its octets) rest-holds

    no-fault : first_fault octets ≡ None
    no-fault = later-fault octets its kind-read (sym start-none) ∙ rest-none

  -- with a fault there is nothing to read
  pub refused : (r : Result (Pdu × ℕ) PduFault) (fault : PduFault) → r ≡ Err fault → Some fault ≡ first_fault octets → (pdu : PduView) (n : ℕ) → (decoded_view r ≡ Ok (pdu, n)) ↔ (ReadsAs octets pdu n × (n ≤ length octets))
  refused r fault is e pdu n = (
    (λ read. let none : decoded_view r ≡ Err fault = ap decoded_view is in cc),
    (λ (reads, within). let none = no-fault pdu n reads within in cc),
  )

  -- without one there is one value to read
  pub accepted : (kind : PduKind) (p : Pdu) (m : ℕ) → kind_at octets ≡ Some kind → None ≡ first_failing (start_tests octets) → None ≡ first_failing (kind_tests kind octets) → m ≡ length_at kind octets → m ≤ length octets → pdu_view p ≡ value_at kind octets (body_at kind octets m) → (pdu : PduView) (n : ℕ) → (decoded_view (Ok (p, m)) ≡ Ok (pdu, n)) ↔ (ReadsAs octets pdu n × (n ≤ length octets))
  accepted kind p m is start rest size fits value pdu n =
      let base = reads-as kind (pdu_view p) m (sym size) (sym value) (ap kind_of value ∙ kind-of_value kind octets (body_at kind octets m)) is (all-hold (start_tests octets) (sym start)) (all-hold (kind_tests kind octets) (sym rest)) in (
        (λ read.
            let pair : ◌≡◌ {A = PduView × ℕ} (pdu_view p, m) (pdu, n) = cc in
            subst (λ (it : PduView × ℕ). ReadsAs octets it.0 it.1 × (it.1 ≤ length octets)) pair (base, fits)),
        (λ (reads, within).
            let its = kind-read pdu n reads within in
            let same : kind ≡ kind_of pdu = cc in
            let sizes : m ≡ n = size ∙ ap (λ (k : PduKind). length_at k octets) same ∙ reads.size in
            let values : pdu_view p ≡ pdu = value ∙ ap (λ (k : PduKind). value_at k octets (body_at k octets m)) same ∙ ap (λ (it : ℕ). value_at (kind_of pdu) octets (body_at (kind_of pdu) octets it)) sizes ∙ reads.value in
            (λ i. Ok (values i, sizes i))),
      )

-- both clauses are one function of the octets
pub decoded-from : (octets : List ℕ) (r : Result (Pdu × ℕ) PduFault) → ((pdu : PduView) (n : ℕ) → (decoded_view r ≡ Ok (pdu, n)) ↔ Begins octets pdu n) → result_err r ≡ first_fault octets → decoded_view r ≡ decoded octets
unfolding decoded
decoded-from octets (Err fault) ok err = ap (λ (found : Option PduFault). decoded_by found (kind_at octets) octets) err
decoded-from octets (Ok found) ok err =
    let pdu = pdu_view found.0 in
    let its = kind_of pdu in
    let reads = ((ok pdu found.1).0 refl).0 in
    let size = sym reads.size in
    let value = sym reads.value ∙ ap (λ (n : ℕ). value_at its octets (body_at its octets n)) size in
    let known : kind_at octets ≡ Some its = ap kind_of_number reads.kind ∙ kind-reads_back its in
    (λ i. Ok (value i, size i))
    ∙ ap (λ (kind : Option PduKind). decoded_by None kind octets) (sym known)
    ∙ ap (λ (found : Option PduFault). decoded_by found (kind_at octets) octets) err
