-- What is found in a datagram lies in it, and is what a desk finds.
use Rattle.std.proofs.Common.{◌≡◌, ◌∙◌, ℕ, ◌≤◌, List, [], length, take, drop, cond, ltb, Bool, true, false, Option, Some, None, Result, Ok, Err, refl, sym, ap, arith, length-drop}
use Rattle.std.specs.Prelude.{bytes_eq, codes}
use Rattle.std.proofs.lemmas.Bool.{ltb-false}
use Rattle.isis_base.specs.declared.identifiers.Snpa.{Snpa}
use Rattle.isis_base.specs.declared.pdu_kind.PduKind.{PduKind}
use Rattle.isis_base.specs.declared.pdu_kind.PduKind.TheVariants as kind
use Rattle.isis_base.specs.Fields.{u32_at}
use Rattle.isis_base.specs.PduKinds.{header_length}
use Rattle.isis_pdu.specs.declared.frame.FrameFault.{FrameFault}
use Rattle.isis_pdu.specs.declared.frame.FrameFault.TheVariants.{Version, Short, Magic}
use Rattle.isis_pdu.specs.Frames.{unframed}
use Rattle.isis_pdu.specs.declared.fault.PduFault.{PduFault}
use Rattle.isis_pdu.specs.Views.{PduView, LanHello, PointHello, Lsp, Csnp, Psnp, tlvs_of_pdu}
use Rattle.isis_pdu.specs.Layout.{kind_of, body_at, value_at}
use Rattle.isis_pdu.specs.Reading.{Begins}
use Rattle.isis_pdu.specs.Decoded.{decoded}
use Rattle.router_desk.specs.declared.cause.DropCause.{DropCause}
use Rattle.router_desk.specs.declared.cause.DropCause.TheVariants as cause
use Rattle.router_desk.specs.declared.desk_circuit.DeskCircuit.{DeskCircuit}
use Rattle.router_desk.specs.declared.header.Header.{Header}
use Rattle.router_desk.specs.Desks.{DeskView}
use Rattle.router_desk.specs.Headers.{header_of, pdu_with, header_kind}
use Rattle.router_desk.specs.Table.{tests_of, first_failing}
use Rattle.router_desk.specs.Opening.{frame_cause, refused_or, seen_pdu, seen_frame, seen_on, seen_in, Lies}

-- ---- frames

-- the PDU of a datagram is what lies behind its frame
pub record IsBehind (datagram octets : List ℕ) : Type 0 where
  pub behind : octets ≡ drop 14 datagram
  pub some : 14 ≤ length datagram

abbrev Framed : Type 0
Framed = Result (Snpa × ℕ × List ℕ) FrameFault

abbrev answer : Bool → Bool → Bool → List ℕ → Framed
answer old short right datagram =
    cond old (Err Version) (cond short (Err Short) (cond right (Ok (record { 0 = take 6 (drop 4 datagram) }, u32_at 10 datagram, drop 14 datagram)) (Err Magic)))

abbrev pdu_of : Framed → List ℕ
pdu_of (Ok parts) = parts.2
pdu_of (Err fault) = []

is-no_fault : (parts : Snpa × ℕ × List ℕ) (fault : FrameFault) (A : Type 0) → ◌≡◌ {A = Framed} (Ok parts) (Err fault) → A
is-no_fault parts fault A is = cc

behind-by : (old short right : Bool) (datagram : List ℕ) (snpa : Snpa) (boot : ℕ) (octets : List ℕ) → ltb (length datagram) 14 ≡ short → ◌≡◌ {A = Framed} (Ok (snpa, boot, octets)) (answer old short right datagram) → IsBehind datagram octets
behind-by true short right datagram snpa boot octets size is = is-no_fault (snpa, boot, octets) Version (IsBehind datagram octets) is
behind-by false true right datagram snpa boot octets size is = is-no_fault (snpa, boot, octets) Short (IsBehind datagram octets) is
behind-by false false false datagram snpa boot octets size is = is-no_fault (snpa, boot, octets) Magic (IsBehind datagram octets) is
behind-by false false true datagram snpa boot octets size is = record { behind = ap pdu_of is; some = ltb-false (length datagram) 14 size }

pub unframed-behind : (datagram : List ℕ) (snpa : Snpa) (boot : ℕ) (octets : List ℕ) → Ok (snpa, boot, octets) ≡ unframed datagram → IsBehind datagram octets
unfolding unframed
unframed-behind datagram snpa boot octets is =
    behind-by (bytes_eq (take 4 datagram) (codes "ISU1")) (ltb (length datagram) 14) (bytes_eq (take 4 datagram) (codes "ISU2")) datagram snpa boot octets refl is

-- ---- headers

same-kind : (pdu : PduView) → header_kind (header_of pdu) ≡ kind_of pdu
same-kind (LanHello level circuit_type source holding priority lan tlvs) = refl
same-kind (PointHello circuit_type source holding circuit tlvs) = refl
same-kind (Lsp level lifetime id number checksum flags tlvs) = refl
same-kind (Csnp level source start end tlvs) = refl
same-kind (Psnp level source tlvs) = refl

again : (pdu : PduView) → pdu_with (header_of pdu) (tlvs_of_pdu pdu) ≡ pdu
again (LanHello level circuit_type source holding priority lan tlvs) = refl
again (PointHello circuit_type source holding circuit tlvs) = refl
again (Lsp level lifetime id number checksum flags tlvs) = refl
again (Csnp level source start end tlvs) = refl
again (Psnp level source tlvs) = refl

tlvs-value : (its : PduKind) (octets tlvs : List ℕ) → tlvs_of_pdu (value_at its octets tlvs) ≡ tlvs
tlvs-value (kind.LanHello level) octets tlvs = refl
tlvs-value kind.PointHello octets tlvs = refl
tlvs-value (kind.Lsp level) octets tlvs = refl
tlvs-value (kind.Csnp level) octets tlvs = refl
tlvs-value (kind.Psnp level) octets tlvs = refl

-- a PDU's header with what lies behind it is the PDU
whole : (octets : List ℕ) (pdu : PduView) (n : ℕ) → Begins octets pdu n → pdu_with (header_of pdu) (body_at (header_kind (header_of pdu)) octets n) ≡ pdu
whole octets pdu n begins =
    let body = body_at (kind_of pdu) octets n in
    let tlvs : body ≡ tlvs_of_pdu pdu = sym (tlvs-value (kind_of pdu) octets body) ∙ ap tlvs_of_pdu begins.0.value in
    ap (λ (its : PduKind). pdu_with (header_of pdu) (body_at its octets n)) (same-kind pdu)
    ∙ ap (pdu_with (header_of pdu)) tlvs
    ∙ again pdu

-- ---- what is found

module _ (desk : DeskView) (c : DeskCircuit) (datagram : List ℕ) where
  pub frame-refused : (fault : FrameFault) → Err fault ≡ unframed datagram → Err (frame_cause fault) ≡ seen_on desk c datagram
  unfolding seen_on
  frame-refused fault is = ap (seen_frame desk c) is

  pub pdu-refused : (snpa : Snpa) (boot : ℕ) (octets : List ℕ) (fault : PduFault) → Ok (snpa, boot, octets) ≡ unframed datagram → Err fault ≡ decoded octets → Err (cause.Pdu fault) ≡ seen_on desk c datagram
  unfolding seen_on
  pdu-refused snpa boot octets fault is read = ap (seen_pdu desk c snpa boot octets) read ∙ ap (seen_frame desk c) is

  abbrev failing : PduView → List ℕ → Option DropCause
  failing pdu octets = first_failing (tests_of desk c pdu octets)

  tested : (snpa : Snpa) (boot : ℕ) (octets : List ℕ) (pdu : PduView) (n : ℕ) (found : Option DropCause) → Ok (snpa, boot, octets) ≡ unframed datagram → Ok (pdu, n) ≡ decoded octets → found ≡ failing pdu (take n octets) → refused_or found (record { snpa = snpa; boot = boot; pdu = pdu; octets = take n octets }) ≡ seen_on desk c datagram
  unfolding seen_on
  tested snpa boot octets pdu n found is read test =
      ap (λ (found : Option DropCause). refused_or found (record { snpa = snpa; boot = boot; pdu = pdu; octets = take n octets })) test
      ∙ ap (seen_pdu desk c snpa boot octets) read
      ∙ ap (seen_frame desk c) is

  pub test-refused : (snpa : Snpa) (boot : ℕ) (octets : List ℕ) (pdu : PduView) (n : ℕ) (why : DropCause) → Ok (snpa, boot, octets) ≡ unframed datagram → Ok (pdu, n) ≡ decoded octets → Some why ≡ failing pdu (take n octets) → Err why ≡ seen_on desk c datagram
  test-refused snpa boot octets pdu n why is read test = tested snpa boot octets pdu n (Some why) is read test

  pub seen-here : (snpa : Snpa) (boot : ℕ) (octets : List ℕ) (pdu : PduView) (n : ℕ) (header : Header) → Ok (snpa, boot, octets) ≡ unframed datagram → Ok (pdu, n) ≡ decoded octets → Begins octets pdu n → None ≡ failing pdu (take n octets) → header ≡ header_of pdu → Ok (seen_in datagram (record { sender = snpa; boot = boot; header = header; end = n })) ≡ seen_on desk c datagram
  seen-here snpa boot octets pdu n header is read begins test known =
      let behind = (unframed-behind datagram snpa boot octets is).behind in
      ap (λ (header : Header). Ok (seen_in datagram (record { sender = snpa; boot = boot; header = header; end = n }))) known
      ∙ ap (λ (octets : List ℕ). Ok (record { snpa = snpa; boot = boot; pdu = pdu_with (header_of pdu) (body_at (header_kind (header_of pdu)) octets n); octets = take n octets })) (sym behind)
      ∙ ap (λ (pdu : PduView). Ok (record { snpa = snpa; boot = boot; pdu = pdu; octets = take n octets })) (whole octets pdu n begins)
      ∙ tested snpa boot octets pdu n None is read test

pub lies-here : (datagram : List ℕ) (snpa : Snpa) (boot : ℕ) (octets : List ℕ) (pdu : PduView) (n : ℕ) (header : Header) → Ok (snpa, boot, octets) ≡ unframed datagram → Begins octets pdu n → header ≡ header_of pdu → Lies datagram (record { sender = snpa; boot = boot; header = header; end = n })
lies-here datagram snpa boot octets pdu n header is begins known =
    let behind = unframed-behind datagram snpa boot octets is in
    let size : length octets ≡ length (drop 14 datagram) = ap length behind.behind in
    let less = length-drop 14 datagram in
    let some = behind.some in
    let fits = begins.1 in
    let its : header_length (header_kind header) ≡ header_length (kind_of pdu) = ap (λ (header : Header). header_length (header_kind header)) known ∙ ap header_length (same-kind pdu) in
    let least = begins.0.least in
    record { header = omega arith; within = omega arith }
