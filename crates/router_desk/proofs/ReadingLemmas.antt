-- What a desk finds is what a router of the model reads.
use Rattle.std.proofs.Common.{◌≡◌, ◌∙◌, ℕ, zero, suc, ◌+◌, ◌-◌, List, [], ◌∷◌, ◌++◌, length, take, drop as past, map, cond, eqb, ltb, leb, Bool, true, false, ◌&&◌, ◌||◌, not, Option, Some, None, Result, Ok, Err, refl, sym, ap, arith, is_none}
use Rattle.std.specs.Prelude.{bytes_eq, find, flat_map, option_and_then, slice_get}
use Rattle.std.specs.Option.{option_map, is_some}
use Rattle.std.specs.Result.{result_err}
use Rattle.std.proofs.lemmas.Bool.{ltb-true, ltb-false, lt-leb, le-leb, eqb-true}
use Rattle.std.proofs.lemmas.Option.{slice_get-map}
use Rattle.isis_base.specs.declared.identifiers.Snpa.{Snpa}
use Rattle.isis_base.specs.declared.level.Level.{Level}
use Rattle.isis_base.specs.declared.pdu_kind.PduKind.{PduKind}
use Rattle.isis_base.specs.declared.pdu_kind.PduKind.TheVariants as kind
use Rattle.isis_base.specs.PduKinds.{header_length, is_hello}
use Rattle.isis_tlv.specs.declared.fault.ValueFault.{ValueFault}
use Rattle.isis_tlv.specs.declared.three_way.ThreeWay.{ThreeWay}
use Rattle.isis_tlv.specs.Walks.{fault_of}
use Rattle.isis_tlv.specs.Tlvs.{TlvView, tlv_list}
use Rattle.isis_tlv.specs.Items.{areas_of, snpas_of, entries_of, three_way_of}
use Rattle.isis_pdu.specs.declared.frame.FrameFault.{FrameFault}
use Rattle.isis_pdu.specs.declared.frame.FrameFault.TheVariants.{Version, Short, Magic}
use Rattle.isis_pdu.specs.Frames as edge
use Rattle.isis_pdu.specs.declared.fault.PduFault.{PduFault}
use Rattle.isis_pdu.specs.Views.{PduView, tlvs_of_pdu}
use Rattle.isis_pdu.specs.Layout.{kind_of}
use Rattle.isis_pdu.specs.Decoded.{decoded}
use Rattle.model_router.specs.declared.drop_name.DropName.{DropName}
use Rattle.model_router.specs.declared.drop_name.DropName.TheVariants as drop
use Rattle.isis_base.specs.Fields.{u32_at}
use Rattle.model_router.specs.Events.{Envelope}
use Rattle.model_router.specs.Places.{nth}
use Rattle.model_router.specs.Configs.{Config}
use Rattle.model_router.specs.Routers.{Circuit}
use Rattle.model_router.specs.Numbers.{u48_of, snpa_number}
use Rattle.model_datagram.specs.Frames.{magic, first_magic, unframed}
use Rattle.model_datagram.specs.Values.{items_if, items_in}
use Rattle.model_datagram.specs.Tests as model
use Rattle.model_datagram.specs.Reading as reading
use Rattle.router_desk.specs.declared.cause.DropCause.{DropCause}
use Rattle.router_desk.specs.declared.desk_circuit.DeskCircuit.{DeskCircuit}
use Rattle.router_desk.specs.Causes.{name_of}
use Rattle.router_desk.specs.Desks.{DeskView, is_lan, is_point, kind_of_circuit, desk_circuit, desk_of}
use Rattle.router_desk.specs.Values.{hello_fault, snp_fault, value_fault, place_in_pdu, value_place}
use Rattle.router_desk.specs.Table.{Test, first_failing, goes_on, is_run, key_for, auth_fault_under, tests_of}
use Rattle.router_desk.specs.Opening.{frame_cause, envelope_in, SeenView, refused_or, seen_pdu, seen_frame, seen_by, seen_on, seen_at, message_of}

-- ---- frames

u48-take : (octets : List ℕ) → u48_of (take 6 octets) ≡ u48_of octets
u48-take [] = refl
u48-take (a ∷ []) = refl
u48-take (a ∷ b ∷ []) = refl
u48-take (a ∷ b ∷ c ∷ []) = refl
u48-take (a ∷ b ∷ c ∷ d ∷ []) = refl
u48-take (a ∷ b ∷ c ∷ d ∷ e ∷ []) = refl
u48-take (a ∷ b ∷ c ∷ d ∷ e ∷ f ∷ octets) = refl

-- a frame as the model has it
abbrev Parts : Type 0
Parts = Result (Envelope × List ℕ) DropName

abbrev Framed : Type 0
Framed = Result (Snpa × ℕ × List ℕ) FrameFault

abbrev parts_of : Framed → Parts
parts_of (Err fault) = Err (name_of (frame_cause fault))
parts_of (Ok parts) = Ok (record { snpa = snpa_number parts.0; boot = parts.1 }, parts.2)

abbrev framed_by : Bool → Bool → Bool → List ℕ → Framed
framed_by old short right datagram =
    cond old (Err Version) (cond short (Err Short) (cond right (Ok (record { 0 = take 6 (past 4 datagram) }, u32_at 10 datagram, past 14 datagram)) (Err Magic)))

abbrev parts_by : Bool → Bool → Bool → List ℕ → Parts
parts_by old long right datagram = cond old (Err drop.Version) (cond (long && right) (Ok (record { snpa = u48_of (past 4 datagram); boot = u32_at 10 datagram }, past 14 datagram)) (Err drop.Frame))

parts-by : (old short right : Bool) (datagram : List ℕ) → parts_of (framed_by old short right datagram) ≡ parts_by old (not short) right datagram
parts-by true short right datagram = refl
parts-by false true right datagram = refl
parts-by false false true datagram = ap (λ (n : ℕ). Ok (record { snpa = n; boot = u32_at 10 datagram }, past 14 datagram)) (u48-take (past 4 datagram))
parts-by false false false datagram = refl

long-short : (n : ℕ) (short : Bool) → ltb n 14 ≡ short → not short ≡ leb 14 n
long-short n true is = sym (lt-leb 14 n (ltb-true n 14 is))
long-short n false is = sym (le-leb 14 n (ltb-false n 14 is))

parts-unframed : (datagram : List ℕ) → parts_of (edge.unframed datagram) ≡ unframed datagram
unfolding edge.unframed unframed
parts-unframed datagram =
    let old = bytes_eq (take 4 datagram) first_magic in
    let right = bytes_eq (take 4 datagram) magic in
    parts-by old (ltb (length datagram) 14) right datagram
    ∙ ap (λ (long : Bool). parts_by old long right datagram) (long-short (length datagram) (ltb (length datagram) 14) refl)

-- ---- values

fault-append : {X : Type 0} (one two : List (Result X ValueFault)) → is_none (fault_of (one ++ two)) ≡ (is_none (fault_of one) && is_none (fault_of two))
fault-append [] two = refl
fault-append (Ok item ∷ one) two = fault-append one two
fault-append (Err fault ∷ one) two = refl

fault-if : {X : Type 0} (test : Bool) (items : List (Result X ValueFault)) → fault_of (cond test items []) ≡ cond test (fault_of items) None
fault-if true items = refl
fault-if false items = refl

fault-one : {X : Type 0} (item : Result X ValueFault) → fault_of (item ∷ []) ≡ result_err item
fault-one (Ok item) = refl
fault-one (Err fault) = refl

-- no TLV has a fault
abbrev none_faulty : PduKind → List TlvView → Bool
none_faulty its [] = true
none_faulty its (tlv ∷ tlvs) = is_none (value_fault its tlv) && none_faulty its tlvs

abbrev found_place : PduKind → List TlvView → Option ℕ
found_place its tlvs = option_and_then (place_in_pdu its) (find (λ tlv. is_some (value_fault its tlv)) tlvs)

found-step : (its : PduKind) (tlv : TlvView) (tlvs : List TlvView) (fault : Option ValueFault) → value_fault its tlv ≡ fault → is_none (found_place its tlvs) ≡ none_faulty its tlvs → is_none (found_place its (tlv ∷ tlvs)) ≡ none_faulty its (tlv ∷ tlvs)
found-step its tlv tlvs None is rest =
    ap (λ (o : Option ValueFault). is_none (option_and_then (place_in_pdu its) (cond (is_some o) (Some tlv) (find (λ tlv. is_some (value_fault its tlv)) tlvs)))) is
    ∙ rest
    ∙ ap (λ (o : Option ValueFault). is_none o && none_faulty its tlvs) (sym is)
found-step its tlv tlvs (Some fault) is rest =
    ap (λ (o : Option ValueFault). is_none (option_and_then (place_in_pdu its) (cond (is_some o) (Some tlv) (find (λ tlv. is_some (value_fault its tlv)) tlvs)))) is
    ∙ ap (λ (o : Option ValueFault). is_none (option_map (λ (fault : ValueFault). header_length its + tlv.place + 2 + fault.place) o)) is
    ∙ ap (λ (o : Option ValueFault). is_none o && none_faulty its tlvs) (sym is)

found-none : (its : PduKind) (tlvs : List TlvView) → is_none (found_place its tlvs) ≡ none_faulty its tlvs
found-none its [] = refl
found-none its (tlv ∷ tlvs) = found-step its tlv tlvs (value_fault its tlv) refl (found-none its tlvs)

-- no TLV of a code has a fault
abbrev reads : {X : Type 0} → ℕ → (List ℕ → List (Result X ValueFault)) → List TlvView → Bool
reads code reader tlvs = is_none (fault_of (flat_map (items_if code reader) tlvs))

abbrev read_one : {X : Type 0} → ℕ → (List ℕ → List (Result X ValueFault)) → TlvView → Bool
read_one code reader tlv = is_none (cond (eqb tlv.code code) (fault_of (reader tlv.value)) None)

reads-step : {X : Type 0} (code : ℕ) (reader : List ℕ → List (Result X ValueFault)) (tlv : TlvView) (tlvs : List TlvView) → reads code reader (tlv ∷ tlvs) ≡ (read_one code reader tlv && reads code reader tlvs)
reads-step code reader tlv tlvs =
    fault-append (items_if code reader tlv) (flat_map (items_if code reader) tlvs)
    ∙ ap (λ (o : Option ValueFault). is_none o && reads code reader tlvs) (fault-if (eqb tlv.code code) (reader tlv.value))

shuffle : (a b c p q r : Bool) → ((a && b && c) && (p && q && r)) ≡ ((a && p) && (b && q) && (c && r))
shuffle false b c p q r = refl
shuffle true false c true q r = refl
shuffle true false c false q r = refl
shuffle true true true p q r = refl
shuffle true true false true true r = refl
shuffle true true false true false r = refl
shuffle true true false false q r = refl

and-true : (a : Bool) → a ≡ (a && true)
and-true true = refl
and-true false = refl

-- of three tests at most one holds
by-tests : (a b c : Bool) (x y z : Option ValueFault) → (a ≡ true → b ≡ false) → (a ≡ true → c ≡ false) → (b ≡ true → c ≡ false) → is_none (cond a x (cond b y (cond c z None))) ≡ (is_none (cond a x None) && is_none (cond b y None) && is_none (cond c z None))
by-tests true true c x y z ab ac bc = let no = ab refl in cc
by-tests true false true x y z ab ac bc = let no = ac refl in cc
by-tests true false false x y z ab ac bc = and-true (is_none x) ∙ and-true (is_none x && true)
by-tests false true true x y z ab ac bc = let no = bc refl in cc
by-tests false true false x y z ab ac bc = and-true (is_none y)
by-tests false false c x y z ab ac bc = refl

abbrev shake_items : List ℕ → List (Result ThreeWay ValueFault)
shake_items value = three_way_of value ∷ []

hello-one : (tlv : TlvView) → is_none (hello_fault tlv) ≡ (read_one 1 areas_of tlv && read_one 6 snpas_of tlv && read_one 240 shake_items tlv)
hello-one tlv =
    let n = tlv.code in
    by-tests (eqb n 1) (eqb n 6) (eqb n 240) (fault_of (areas_of tlv.value)) (fault_of (snpas_of tlv.value)) (result_err (three_way_of tlv.value))
    (λ e. ap (λ (n : ℕ). eqb n 6) (eqb-true n 1 e)) (λ e. ap (λ (n : ℕ). eqb n 240) (eqb-true n 1 e)) (λ e. ap (λ (n : ℕ). eqb n 240) (eqb-true n 6 e))
    ∙ ap (λ (o : Option ValueFault). read_one 1 areas_of tlv && read_one 6 snpas_of tlv && is_none (cond (eqb n 240) o None)) (sym (fault-one (three_way_of tlv.value)))

-- the values of a hello are read
abbrev hello_reads : List TlvView → Bool
hello_reads tlvs = reads 1 areas_of tlvs && reads 6 snpas_of tlvs && reads 240 shake_items tlvs

hello-list : (tlvs : List TlvView) → none_faulty kind.PointHello tlvs ≡ hello_reads tlvs
hello-list [] = refl
hello-list (tlv ∷ tlvs) =
    ap (λ (b : Bool). b && none_faulty kind.PointHello tlvs) (hello-one tlv)
    ∙ ap (λ (b : Bool). (read_one 1 areas_of tlv && read_one 6 snpas_of tlv && read_one 240 shake_items tlv) && b) (hello-list tlvs)
    ∙ shuffle (read_one 1 areas_of tlv) (read_one 6 snpas_of tlv) (read_one 240 shake_items tlv) (reads 1 areas_of tlvs) (reads 6 snpas_of tlvs) (reads 240 shake_items tlvs)
    ∙ (λ i. sym (reads-step 1 areas_of tlv tlvs) i && sym (reads-step 6 snpas_of tlv tlvs) i && sym (reads-step 240 shake_items tlv tlvs) i)

snp-list : (its : PduKind) → ((tlv : TlvView) → value_fault its tlv ≡ snp_fault tlv) → (tlvs : List TlvView) → none_faulty its tlvs ≡ reads 9 entries_of tlvs
snp-list its same [] = refl
snp-list its same (tlv ∷ tlvs) =
    ap (λ (o : Option ValueFault). is_none o && none_faulty its tlvs) (same tlv)
    ∙ ap (λ (b : Bool). read_one 9 entries_of tlv && b) (snp-list its same tlvs)
    ∙ sym (reads-step 9 entries_of tlv tlvs)

lan-list : (level : Level) (tlvs : List TlvView) → none_faulty (kind.LanHello level) tlvs ≡ none_faulty kind.PointHello tlvs
lan-list level [] = refl
lan-list level (tlv ∷ tlvs) = ap (λ (b : Bool). is_none (hello_fault tlv) && b) (lan-list level tlvs)

lsp-list : (level : Level) (tlvs : List TlvView) → none_faulty (kind.Lsp level) tlvs ≡ true
lsp-list level [] = refl
lsp-list level (tlv ∷ tlvs) = lsp-list level tlvs

place-none : (its : PduKind) (tlvs : List ℕ) → is_none (value_place its tlvs) ≡ none_faulty its (tlv_list 0 tlvs)
unfolding value_place
place-none its tlvs = found-none its (tlv_list 0 tlvs)

values-read : (its : PduKind) (tlvs : List ℕ) → is_none (value_place its tlvs) ≡ model.are_read its tlvs
unfolding items_in
values-read (kind.LanHello level) tlvs = place-none _ tlvs ∙ lan-list level (tlv_list 0 tlvs) ∙ hello-list (tlv_list 0 tlvs)
values-read kind.PointHello tlvs = place-none _ tlvs ∙ hello-list (tlv_list 0 tlvs)
values-read (kind.Lsp level) tlvs = place-none _ tlvs ∙ lsp-list level (tlv_list 0 tlvs)
values-read (kind.Csnp level) tlvs = place-none _ tlvs ∙ snp-list (kind.Csnp level) (λ tlv. refl) (tlv_list 0 tlvs)
values-read (kind.Psnp level) tlvs = place-none _ tlvs ∙ snp-list (kind.Psnp level) (λ tlv. refl) (tlv_list 0 tlvs)

-- ---- tests

lan-reads_back : (lan : Bool) → is_lan (kind_of_circuit lan) ≡ lan
lan-reads_back true = refl
lan-reads_back false = refl

point-reads_back : (lan : Bool) → is_point (kind_of_circuit lan) ≡ not lan
point-reads_back true = refl
point-reads_back false = refl

goes-reads_back : (c : Circuit) (its : PduKind) → goes_on (kind_of_circuit c.lan) its ≡ model.goes_on c its
goes-reads_back c (kind.LanHello level) = lan-reads_back c.lan
goes-reads_back c kind.PointHello = point-reads_back c.lan
goes-reads_back c (kind.Lsp level) = refl
goes-reads_back c (kind.Csnp level) = refl
goes-reads_back c (kind.Psnp level) = refl

run-reads_back : (config : Config) (its : PduKind) → is_run config.runs its ≡ model.is_run config its
run-reads_back config (kind.LanHello level) = refl
run-reads_back config kind.PointHello = refl
run-reads_back config (kind.Lsp level) = refl
run-reads_back config (kind.Csnp level) = refl
run-reads_back config (kind.Psnp level) = refl

key-reads_back : (config : Config) (c : Circuit) (its : PduKind) → key_for config.keys c.key its ≡ model.key_for config c its
key-reads_back config c (kind.LanHello level) = refl
key-reads_back config c kind.PointHello = refl
key-reads_back config c (kind.Lsp level) = refl
key-reads_back config c (kind.Csnp level) = refl
key-reads_back config c (kind.Psnp level) = refl

passes-reads_back : (key : Option (List ℕ)) (octets : List ℕ) (header : ℕ) → is_none (auth_fault_under key octets header) ≡ model.passes key octets header
passes-reads_back None octets header = refl
passes-reads_back (Some key) octets header = refl

-- a test by the name of its cause
abbrev named : Test → model.Test
named test = model.row test.holds (name_of test.cause)

first-named : (tests : List Test) → model.first_failing (map named tests) ≡ option_map name_of (first_failing tests)
first-named [] = refl
first-named (test ∷ tests) = by test.holds (first-named tests)
  where
    by : (holds : Bool) → model.first_failing (map named tests) ≡ option_map name_of (first_failing tests) → cond holds (model.first_failing (map named tests)) (Some (name_of test.cause)) ≡ option_map name_of (cond holds (first_failing tests) (Some test.cause))
    by true rest = rest
    by false rest = refl

tests-named : (config : Config) (circuits : List Circuit) (c : Circuit) (pdu : PduView) (octets : List ℕ) → map named (tests_of (desk_of config circuits) (desk_circuit c) pdu octets) ≡ model.tests_of config c pdu octets
tests-named config circuits c pdu octets =
    let its = kind_of pdu in
    let goes = goes-reads_back c its in
    let run = run-reads_back config its in
    let auth =
    passes-reads_back (key_for config.keys c.key its) octets (header_length its)
    ∙ ap (λ (key : Option (List ℕ)). model.passes key octets (header_length its)) (key-reads_back config c its) in
    let values = values-read its (tlvs_of_pdu pdu) in
    λ i.
    model.row (is_hello its || leb (length octets) 1492) drop.TooLong
    ∷ model.row (goes i) drop.WrongKind
    ∷ model.row (run i) drop.WrongLevel
    ∷ model.row (auth i) drop.Auth
    ∷ model.row (values i) drop.Value
    ∷ model.row (model.has_number pdu) drop.ZeroNumber
    ∷ model.row (model.is_summed pdu octets) drop.BadChecksum
    ∷ []

-- ---- what is read

module _ (config : Config) (circuits : List Circuit) (c : Circuit) where
  abbrev its_desk : DeskView
  its_desk = desk_of config circuits

  refused-reads : (found : Option DropCause) (seen : SeenView) → message_of config.system (refused_or found seen) ≡ reading.refused_or (option_map name_of found) (reading.message config.system (envelope_in seen) seen.pdu seen.octets)
  refused-reads None seen = refl
  refused-reads (Some why) seen = refl

  pdu-reads : (snpa : Snpa) (boot : ℕ) (octets : List ℕ) (found : Result (PduView × ℕ) PduFault) → message_of config.system (seen_pdu its_desk (desk_circuit c) snpa boot octets found) ≡ reading.read_pdu config c (record { snpa = snpa_number snpa; boot = boot }) octets found
  pdu-reads snpa boot octets (Err fault) = refl
  pdu-reads snpa boot octets (Ok found) =
      let whole = take found.1 octets in
      let tests = tests_of its_desk (desk_circuit c) found.0 whole in
      refused-reads (first_failing tests) (record { snpa = snpa; boot = boot; pdu = found.0; octets = whole })
      ∙ ap (λ (name : Option DropName). reading.refused_or name (reading.message config.system (record { snpa = snpa_number snpa; boot = boot }) found.0 whole))
      (sym (first-named tests) ∙ ap model.first_failing (tests-named config circuits c found.0 whole))

  frame-reads : (parts : Framed) → message_of config.system (seen_frame its_desk (desk_circuit c) parts) ≡ reading.read_frame config c (parts_of parts)
  frame-reads (Err fault) = refl
  frame-reads (Ok parts) = pdu-reads parts.0 parts.1 parts.2 (decoded parts.2)

  on-reads : (datagram : List ℕ) → message_of config.system (seen_on its_desk (desk_circuit c) datagram) ≡ reading.read config c datagram
  unfolding seen_on reading.read
  on-reads datagram = frame-reads (edge.unframed datagram) ∙ ap (reading.read_frame config c) (parts-unframed datagram)

-- ---- circuits

nth-slice_get : {A : Type 0} (xs : List A) (place : ℕ) → slice_get xs place ≡ nth xs place
nth-slice_get [] place = refl
nth-slice_get (x ∷ xs) zero = refl
nth-slice_get (x ∷ xs) (suc place) = nth-slice_get xs place

pub finds-reads : (config : Config) (circuits : List Circuit) (place : ℕ) (c : Circuit) (datagram : List ℕ) → nth circuits place ≡ Some c → message_of config.system (seen_at (desk_of config circuits) (place + 1) datagram) ≡ reading.read config c datagram
finds-reads config circuits place c datagram is =
    let same : place + 1 - 1 ≡ place = omega arith in
    let there = slice_get-map desk_circuit circuits place ∙ ap (option_map desk_circuit) (nth-slice_get circuits place ∙ is) in
    ap (λ (o : Option DeskCircuit). message_of config.system (seen_by (desk_of config circuits) o datagram)) (ap (slice_get (map desk_circuit circuits)) same ∙ there)
    ∙ on-reads config circuits c datagram
