-- The tests of a PDU's octets that need no state, in their order, each with the cause of a drop
-- where it fails (own: the order).
use Rattle.std.specs.Prelude.{◌≡◌, ℕ, nat_le, Bool, true, ◌||◌, List, [], ◌∷◌, length, Option, Some, None, is_none, if◌then◌else◌}
use Rattle.std.specs.List.{AllByRecursion}
use Rattle.std.specs.Option.{unwrap_or}
use Rattle.isis_base.specs.declared.level.CircuitKind.{CircuitKind}
use Rattle.isis_base.specs.declared.pdu_kind.PduKind.{PduKind}
use Rattle.isis_base.specs.declared.pdu_kind.PduKind.TheVariants as kind
use Rattle.isis_base.specs.PduKinds.{header_length, is_hello}
use Rattle.isis_pdu.specs.Views.{PduView, tlvs_of_pdu}
use Rattle.isis_pdu.specs.Layout.{kind_of}
use Rattle.hmac_auth.specs.declared.fault.AuthFault.{AuthFault}
use Rattle.hmac_auth.specs.declared.fault.AuthFault.TheVariants.{Wrong}
use Rattle.hmac_auth.specs.Auth.{auth_fault}
use Rattle.model_router.specs.Both.{Both, at}
use Rattle.model_datagram.specs.Tests.{has_number, is_summed}
use Rattle.router_desk.specs.declared.cause.DropCause.{DropCause}
use Rattle.router_desk.specs.declared.cause.DropCause.TheVariants as cause
use Rattle.router_desk.specs.declared.desk_circuit.DeskCircuit.{DeskCircuit}
use Rattle.router_desk.specs.Desks.{DeskView, is_lan, is_point}
use Rattle.router_desk.specs.Values.{value_place}

-- a test, and the cause where it fails (own)
pub record Test : Type 0 where
  pub holds : Bool
  pub cause : DropCause

abbrev pub row : Bool → DropCause → Test
row holds cause = record { holds = holds; cause = cause }

-- each test holds
abbrev pub AllHold : List Test → Type 0
AllHold tests = AllByRecursion (λ test. test.holds ≡ true) tests

-- the cause of the first test that fails
abbrev pub first_failing : List Test → Option DropCause
first_failing [] = None
first_failing (test ∷ tests) = if test.holds then first_failing tests else Some test.cause

-- a hello of the circuit's kind; LSPs and SNPs go on both kinds (ISO 10589 8.2, 8.4)
abbrev pub goes_on : CircuitKind → PduKind → Bool
goes_on on (kind.LanHello level) = is_lan on
goes_on on kind.PointHello = is_point on
goes_on on (kind.Lsp level) = true
goes_on on (kind.Csnp level) = true
goes_on on (kind.Psnp level) = true

-- a level that is run; a point-to-point hello is of no level
abbrev pub is_run : Both Bool → PduKind → Bool
is_run runs (kind.LanHello level) = at runs level
is_run runs kind.PointHello = true
is_run runs (kind.Lsp level) = at runs level
is_run runs (kind.Csnp level) = at runs level
is_run runs (kind.Psnp level) = at runs level

-- the key of a PDU: a hello's is the circuit's, else the level's (RFC 5304 3)
abbrev pub key_for : Both (Option (List ℕ)) → Option (List ℕ) → PduKind → Option (List ℕ)
key_for keys key (kind.LanHello level) = key
key_for keys key kind.PointHello = key
key_for keys key (kind.Lsp level) = at keys level
key_for keys key (kind.Csnp level) = at keys level
key_for keys key (kind.Psnp level) = at keys level

-- why a PDU isn't authentic, where there is a key (RFC 5304 3)
abbrev pub auth_fault_under : Option (List ℕ) → List ℕ → ℕ → Option AuthFault
auth_fault_under None octets header = None
auth_fault_under (Some key) octets header = auth_fault key octets header

-- the tests of a PDU whose octets are these
abbrev pub tests_of : DeskView → DeskCircuit → PduView → List ℕ → List Test
tests_of desk c pdu octets =
    let kind = kind_of pdu in
    let auth = auth_fault_under (key_for desk.keys c.key kind) octets (header_length kind) in
    let faulty = value_place kind (tlvs_of_pdu pdu) in
    row (is_hello kind || nat_le (length octets) 1492) cause.TooLong
    ∷ row (goes_on c.kind kind) cause.WrongKind
    ∷ row (is_run desk.runs kind) cause.WrongLevel
    ∷ row (is_none auth) (cause.Auth (unwrap_or auth Wrong))
    ∷ row (is_none faulty) (cause.Value (unwrap_or faulty 0))
    ∷ row (has_number pdu) cause.ZeroNumber
    ∷ row (is_summed pdu octets) cause.BadChecksum
    ∷ []
