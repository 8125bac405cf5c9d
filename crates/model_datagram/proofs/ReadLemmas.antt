-- Octets that begin with a PDU are read as that PDU, by the tests.
use Rattle.std.proofs.Common.{◌≡◌, ◌∙◌, ℕ, ◌^◌, ◌<◌, List, [], ◌∷◌, ◌++◌, length, cond, Bool, true, leb, ◌&&◌, Option, Some, None, Ok, Err, refl, sym, ap, arith, append-nil, subst, take_all}
use Rattle.std.proofs.lemmas.Bool.{le-leb, cond-true}
use Rattle.isis_base.specs.declared.pdu_kind.PduKind.{PduKind}
use Rattle.std.specs.List.{AllByRecursion}
use Rattle.isis_base.specs.PduKinds.{kind_of_number, kind_at}
use Rattle.isis_pdu.specs.declared.fault.PduFault.{PduFault}
use Rattle.isis_pdu.specs.Views.{PduView}
use Rattle.isis_pdu.specs.Layout.{kind_of, body_at, value_at}
use Rattle.isis_pdu.specs.Table.{first_fault}
use Rattle.isis_pdu.specs.Reading.{Begins}
use Rattle.isis_pdu.specs.Spelling.{encoded_len, octets_of_pdu, IsWritable}
use Rattle.isis_pdu.specs.Decoded.{decoded_by, decoded}
use Rattle.isis_pdu.proofs.ReadLemmas.{kind-reads_back, refused}
use Rattle.isis_pdu.proofs.RoundLemmas.{begins-reads_back, length-spelled}
use Rattle.model_router.specs.Configs.{Config}
use Rattle.model_router.specs.Routers.{Circuit}
use Rattle.model_router.specs.Numbers.{u48_octets, u48_of}
use Rattle.model_datagram.specs.Frames.{magic, framed, unframed}
use Rattle.model_datagram.specs.Tests.{Test, tests_of, first_failing}
use Rattle.model_datagram.specs.Reading.{message, refused_or, read_pdu, read_frame, read}
use Rattle.model_datagram.proofs.NumberLemmas.{u48-again, u32-again}
use Rattle.isis_base.specs.Fields.{u32_at, u32_octets}
use Rattle.model_router.specs.declared.drop_name.DropName.TheVariants as drop_name

-- ---- frames

pub unframed-reads_back : (snpa boot : ℕ) (pdu : List ℕ) → snpa < 2 ^ 48 → boot < 2 ^ 32 → unframed (framed snpa boot pdu) ≡ Ok (record { snpa = snpa; boot = boot }, pdu)
unfolding framed unframed
unframed-reads_back snpa boot pdu h b =
    let octets = magic ++ u48_octets snpa ++ u32_octets boot ++ pdu in
    let long : leb 14 (length octets) ≡ true = le-leb 14 (length octets) (omega arith) in
    ap (λ (t : Bool). cond (t && true) (Ok (record { snpa = u48_of (u48_octets snpa ++ pdu); boot = u32_at 0 (u32_octets boot) }, pdu)) (Err drop_name.Frame)) long
    ∙ (λ i. Ok (record { snpa = u48-again snpa h i; boot = u32-again boot b i }, pdu))

-- ---- PDUs

faultless : (octets : List ℕ) (pdu : PduView) (n : ℕ) → Begins octets pdu n → (found : Option PduFault) → first_fault octets ≡ found → first_fault octets ≡ None
faultless octets pdu n begins None is = is
faultless octets pdu n begins (Some fault) is =
    let read = (refused octets (Err fault) fault refl (sym is) pdu n).1 begins in
    cc

pub decoded-begins : (octets : List ℕ) (pdu : PduView) (n : ℕ) → Begins octets pdu n → decoded octets ≡ Ok (pdu, n)
unfolding decoded
decoded-begins octets pdu n begins =
    let reads = begins.0 in
    let its = kind_of pdu in
    let none = faultless octets pdu n begins (first_fault octets) refl in
    let known : kind_at octets ≡ Some its = ap kind_of_number reads.kind ∙ kind-reads_back its in
    let size = reads.size in
    ap (λ (found : Option PduFault). decoded_by found (kind_at octets) octets) none
    ∙ ap (λ (kind : Option PduKind). decoded_by None kind octets) known
    ∙ (λ i. Ok (value_at its octets (body_at its octets (size i)), size i))
    ∙ ap (λ (value : PduView). Ok (value, n)) reads.value

-- what a router reads of a datagram of a PDU and nothing behind it
pub read-begins : (by : Config) (on : Circuit) (snpa boot : ℕ) (octets : List ℕ) (pdu : PduView) → snpa < 2 ^ 48 → boot < 2 ^ 32 → Begins octets pdu (length octets) → read by on (framed snpa boot octets) ≡ refused_or (first_failing (tests_of by on pdu octets)) (message by.system (record { snpa = snpa; boot = boot }) pdu octets)
unfolding read
read-begins by on snpa boot octets pdu small low_boot begins =
    ap (read_frame by on) (unframed-reads_back snpa boot octets small low_boot)
    ∙ ap (read_pdu by on (record { snpa = snpa; boot = boot }) octets) (decoded-begins octets pdu (length octets) begins)
    ∙ ap (λ (whole : List ℕ). refused_or (first_failing (tests_of by on pdu whole)) (message by.system (record { snpa = snpa; boot = boot }) pdu whole)) (take_all (length octets) octets (omega arith))

-- what a PDU that is octets_of_pdu begins with
pub octets_of_pdu-begins : (pdu : PduView) → IsWritable pdu → Begins (octets_of_pdu pdu) pdu (length (octets_of_pdu pdu))
octets_of_pdu-begins pdu is =
    subst (λ (n : ℕ). Begins (octets_of_pdu pdu) pdu n) (sym (length-spelled pdu is))
    (subst (λ (octets : List ℕ). Begins octets pdu (encoded_len pdu)) (append-nil (octets_of_pdu pdu)) (begins-reads_back pdu [] is))

-- ---- tests

pub all-hold : (tests : List Test) → AllByRecursion (λ test. test.holds ≡ true) tests → first_failing tests ≡ None
all-hold [] all = refl
all-hold (test ∷ tests) all = cond-true test.holds (first_failing tests) (Some test.cause) all.0 ∙ all-hold tests all.1
