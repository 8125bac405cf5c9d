-- What a desk finds in a datagram: its sender and its PDU, or the cause of the first test that
-- fails (own).
use Rattle.std.specs.Prelude.{◌≡◌, ℕ, ◌+◌, ◌≤◌, List, length, take, drop, Option, Some, None, Result, Ok, Err, IfOk}
use Rattle.isis_base.specs.declared.identifiers.Snpa.{Snpa}
use Rattle.isis_base.specs.PduKinds.{header_length}
use Rattle.isis_pdu.specs.declared.frame.FrameFault.{FrameFault}
use Rattle.isis_pdu.specs.declared.frame.FrameFault.TheVariants as frame
use Rattle.isis_pdu.specs.Frames.{unframed}
use Rattle.isis_pdu.specs.declared.fault.PduFault.{PduFault}
use Rattle.isis_pdu.specs.Views.{PduView, pdu_view}
use Rattle.isis_pdu.specs.Layout.{body_at}
use Rattle.isis_pdu.specs.Decoded.{decoded}
use Rattle.model_router.specs.Events.{Envelope, Message, Refused}
use Rattle.model_router.specs.Numbers.{snpa_number}
use Rattle.model_datagram.specs.Reading.{message}
use Rattle.router_desk.specs.declared.cause.DropCause.{DropCause}
use Rattle.router_desk.specs.declared.cause.DropCause.TheVariants as cause
use Rattle.router_desk.specs.declared.desk_circuit.DeskCircuit.{DeskCircuit}
use Rattle.router_desk.specs.declared.envelope.Envelope as code
use Rattle.router_desk.specs.declared.found.Found.{Found}
use Rattle.router_desk.specs.declared.seen.Seen.{Seen}
use Rattle.router_desk.specs.Causes.{name_of}
use Rattle.router_desk.specs.Desks.{DeskView, circuit_at}
use Rattle.router_desk.specs.Headers.{pdu_with, header_kind}
use Rattle.router_desk.specs.Table.{tests_of, first_failing}

-- a datagram's sender and PDU, with the PDU's octets (own)
pub record SeenView : Type 0 where
  pub snpa : Snpa
  pub boot : ℕ
  pub pdu : PduView
  pub octets : List ℕ

-- the same without where it lies in memory (own)
abbrev pub seen_view : Result Seen DropCause → Result SeenView DropCause
seen_view (Ok seen) =
    Ok (record {
      snpa = seen.from.snpa;
      boot = seen.from.boot;
      pdu = pdu_view seen.pdu;
      octets = seen.octets.now;
    })
seen_view (Err cause) = Err cause

-- a datagram that came on a circuit, with what was found in it (own)
pub record OpenedView : Type 0 where
  pub circuit : ℕ
  pub octets : List ℕ
  pub seen : Result SeenView DropCause

-- ---- what is found

abbrev pub refused_or : Option DropCause → SeenView → Result SeenView DropCause
refused_or None seen = Ok seen
refused_or (Some cause) seen = Err cause

-- a PDU of so many octets, or the cause of a drop
abbrev pub seen_pdu : DeskView → DeskCircuit → Snpa → ℕ → List ℕ
    → Result (PduView × ℕ) PduFault → Result SeenView DropCause
seen_pdu desk c snpa boot octets (Err fault) = Err (cause.Pdu fault)
seen_pdu desk c snpa boot octets (Ok found) =
    let whole = take found.1 octets in
    refused_or (first_failing (tests_of desk c found.0 whole))
    (record { snpa = snpa; boot = boot; pdu = found.0; octets = whole })

-- why a datagram without a frame is dropped (own)
abbrev pub frame_cause : FrameFault → DropCause
frame_cause frame.Version = cause.Version
frame_cause frame.Short = cause.Frame frame.Short
frame_cause frame.Magic = cause.Frame frame.Magic

abbrev pub seen_frame : DeskView → DeskCircuit → Result (Snpa × ℕ × List ℕ) FrameFault
    → Result SeenView DropCause
seen_frame desk c (Err fault) = Err (frame_cause fault)
seen_frame desk c (Ok parts) = seen_pdu desk c parts.0 parts.1 parts.2 (decoded parts.2)

-- what a desk finds in a datagram on a circuit
unfoldable pub seen_on : DeskView → DeskCircuit → List ℕ → Result SeenView DropCause
seen_on desk c datagram = seen_frame desk c (unframed datagram)

-- the same on the circuit of a number; on one that isn't there no PDU goes (own)
abbrev pub seen_by : DeskView → Option DeskCircuit → List ℕ → Result SeenView DropCause
seen_by desk None datagram = Err cause.WrongKind
seen_by desk (Some c) datagram = seen_on desk c datagram

abbrev pub seen_at : DeskView → ℕ → List ℕ → Result SeenView DropCause
seen_at desk number datagram = seen_by desk (circuit_at desk number) datagram

-- what the desk finds is what was found: so a desk opened it, or another with the same to say of
-- it (own)
abbrev pub IsOpenedBy : DeskView → OpenedView → Type 0
IsOpenedBy desk opened = opened.seen ≡ seen_at desk opened.circuit opened.octets

-- ---- what it says

-- an envelope as the router's model has it (own)
abbrev pub envelope_of : code.Envelope → Envelope
envelope_of from = record { snpa = snpa_number from.snpa; boot = from.boot }

-- that of what was found (own)
abbrev pub envelope_in : SeenView → Envelope
envelope_in seen = record { snpa = snpa_number seen.snpa; boot = seen.boot }

-- what was found as a message of the model, by a reader with this SNPA
abbrev pub message_of : ℕ → Result SeenView DropCause → Message
message_of own (Ok seen) = message own (envelope_in seen) seen.pdu seen.octets
message_of own (Err cause) = Refused (name_of cause)

-- ---- how it lies in the datagram

-- what is found where a PDU lies in a datagram (own)
abbrev pub seen_in : List ℕ → Found → SeenView
seen_in datagram found =
    let pdu = drop 14 datagram in
    record {
      snpa = found.sender;
      boot = found.boot;
      pdu = pdu_with found.header (body_at (header_kind found.header) pdu found.end);
      octets = take found.end pdu;
    }

abbrev pub result_in : List ℕ → Result Found DropCause → Result SeenView DropCause
result_in datagram (Ok found) = Ok (seen_in datagram found)
result_in datagram (Err cause) = Err cause

-- the PDU has its header, and all of it lies behind the frame's fourteen octets (own)
pub record Lies (datagram : List ℕ) (found : Found) : Type 0 where
  pub header : header_length (header_kind found.header) ≤ found.end
  pub within : 14 + found.end ≤ length datagram

abbrev pub LiesIn : List ℕ → Result Found DropCause → Type 0
LiesIn datagram found = IfOk found (Lies datagram)
