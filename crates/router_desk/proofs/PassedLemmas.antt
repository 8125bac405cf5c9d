-- What is found in a datagram passed each test.
use Rattle.std.proofs.Common.{◌≡◌, ℕ, List, [], ◌∷◌, take, cond, true, false, Option, Some, None, Result, Ok, Err, refl, subst}
use Rattle.std.specs.Prelude.{IsSomeAnd}
use Rattle.isis_base.specs.declared.identifiers.Snpa.{Snpa}
use Rattle.isis_pdu.specs.declared.frame.FrameFault.{FrameFault}
use Rattle.isis_pdu.specs.Frames.{unframed}
use Rattle.isis_pdu.specs.declared.fault.PduFault.{PduFault}
use Rattle.isis_pdu.specs.Views.{PduView}
use Rattle.isis_pdu.specs.Decoded.{decoded}
use Rattle.router_desk.specs.declared.cause.DropCause.{DropCause}
use Rattle.router_desk.specs.declared.desk_circuit.DeskCircuit.{DeskCircuit}
use Rattle.router_desk.specs.Desks.{DeskView, circuit_at}
use Rattle.router_desk.specs.Table.{Test, first_failing, tests_of, AllHold}
use Rattle.router_desk.specs.Opening.{SeenView, refused_or, seen_pdu, seen_frame, seen_on, seen_by, seen_at}

all-hold : (tests : List Test) → first_failing tests ≡ None → AllHold tests
all-hold [] none = tt
all-hold (test ∷ tests) none =
    elim (test.holds) as (λ t. test.holds ≡ t → cond t (first_failing tests) (Some test.cause) ≡ None → AllHold (test ∷ tests)) [
      | true ↦ λ h e. (h, all-hold tests e)
      | false ↦ λ h e. cc
    ] refl none

-- where nothing refuses it, what was found is seen
record IsSeen (found : Option DropCause) (one seen : SeenView) : Type 0 where
  none : found ≡ None
  same : one ≡ seen

is-seen : (found : Option DropCause) (one seen : SeenView) → refused_or found one ≡ Ok seen → IsSeen found one seen
is-seen None one seen is = record { none = refl; same = cc }
is-seen (Some cause) one seen is = cc

module _ (desk : DeskView) (c : DeskCircuit) (seen : SeenView) where
  abbrev Passed : Type 0
  Passed = AllHold (tests_of desk c seen.pdu seen.octets)

  passed-pdu : (snpa : Snpa) (boot : ℕ) (octets : List ℕ) (found : Result (PduView × ℕ) PduFault) → seen_pdu desk c snpa boot octets found ≡ Ok seen → Passed
  passed-pdu snpa boot octets (Err fault) is = cc
  passed-pdu snpa boot octets (Ok found) is =
      let tests = tests_of desk c found.0 (take found.1 octets) in
      let it = is-seen (first_failing tests) (record { snpa = snpa; boot = boot; pdu = found.0; octets = take found.1 octets }) seen is in
      subst (λ (seen : SeenView). AllHold (tests_of desk c seen.pdu seen.octets)) it.same (all-hold tests it.none)

  passed-frame : (parts : Result (Snpa × ℕ × List ℕ) FrameFault) → seen_frame desk c parts ≡ Ok seen → Passed
  passed-frame (Err fault) is = cc
  passed-frame (Ok parts) is = passed-pdu parts.0 parts.1 parts.2 (decoded parts.2) is

  passed-on : (datagram : List ℕ) → seen_on desk c datagram ≡ Ok seen → Passed
  unfolding seen_on
  passed-on datagram is = passed-frame (unframed datagram) is

passed-by : (desk : DeskView) (c : Option DeskCircuit) (datagram : List ℕ) (seen : SeenView) → seen_by desk c datagram ≡ Ok seen → IsSomeAnd c (λ c. AllHold (tests_of desk c seen.pdu seen.octets))
passed-by desk None datagram seen is = cc
passed-by desk (Some c) datagram seen is = passed-on desk c seen datagram is

pub passed-at : (desk : DeskView) (number : ℕ) (datagram : List ℕ) (seen : SeenView) → seen_at desk number datagram ≡ Ok seen → IsSomeAnd (circuit_at desk number) (λ c. AllHold (tests_of desk c seen.pdu seen.octets))
passed-at desk number datagram seen is = passed-by desk (circuit_at desk number) datagram seen is
