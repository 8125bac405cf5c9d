-- What the entries of a circuit's label come to, beside what its port tells (own).
use Rattle.std.specs.Prelude.{◌≡◌, ℕ, ◌+◌, ◌==◌, ◌&&◌, ◌⊎◌, Bool, true, false, not, List, [], ◌∷◌, ◌++◌, length, Option, Some, None, Result, Ok, Err}
use Rattle.model_router.specs.Routers.{Router}
use Rattle.router_core.specs.declared.event.NodeEvent.{NodeEvent}
use Rattle.router_core.specs.declared.event.NodeEvent.TheVariants.{Take, Pull, Second}
use Rattle.router_core.specs.declared.event.NodeEvent.TheVariants as event
use Rattle.router_core.specs.declared.reply.Reply.{Reply}
use Rattle.router_core.specs.declared.reply.Reply.TheVariants as reply
use Rattle.circuit_threads.specs.declared.entry.JournalEntry.{JournalEntry}
use Rattle.circuit_threads.specs.declared.entry.Note.{Note}
use Rattle.circuit_threads.specs.declared.entry.Receipt.{Receipt}
use Rattle.circuit_threads.specs.declared.entry.SubmitFault.{SubmitFault}
use Rattle.circuit_threads.specs.declared.entry.SubmitFault.TheVariants as fault
use Rattle.circuit_threads.specs.History.{opening, replay}

-- the datagrams that a reply sends (own)
abbrev pub sends_of : Reply → List (List ℕ)
sends_of reply.Done = []
sends_of (reply.Dropped cause) = []
sends_of (reply.Send datagrams) = datagrams

-- of the entries so far: the datagrams taken and those sent, in order, the number of pulls, whether the last entry is a
-- take, and whether all are takes and pulls of the circuit with a pull right behind each take but the last entry (own)
pub record Walk : Type 0 where
  pub takes : List (List ℕ)
  pub sent : List (List ℕ)
  pub pulls : ℕ
  pub waiting : Bool
  pub legal : Bool

abbrev pub stepped : ℕ → Walk → NodeEvent → List (List ℕ) → Walk
stepped c w (Take o) sent = record {
  takes = w.takes ++ o.octets ∷ [];
  sent = w.sent ++ sent;
  pulls = w.pulls;
  waiting = true;
  legal = w.legal && (not w.waiting && (o.circuit == c));
}
stepped c w (Pull d) sent = record {
  takes = w.takes;
  sent = w.sent ++ sent;
  pulls = w.pulls + 1;
  waiting = false;
  legal = w.legal && (d == c);
}
stepped c w Second sent = record w { sent = w.sent ++ sent; waiting = false; legal = false }
stepped c w (event.Change x) sent = record w { sent = w.sent ++ sent; waiting = false; legal = false }

abbrev pub walk : ℕ → Walk → List JournalEntry → Walk
walk c w [] = w
walk c w (e ∷ es) = walk c (stepped c w e.event (sends_of e.reply)) es

abbrev pub setting_out : Walk
setting_out = record { takes = []; sent = []; pulls = 0; waiting = false; legal = true }

-- how many of the entries are seconds (own)
abbrev pub count_second : NodeEvent → ℕ
count_second (Take o) = 0
count_second (Pull d) = 0
count_second Second = 1
count_second (event.Change x) = 0

abbrev pub seconds : List JournalEntry → ℕ
seconds [] = 0
seconds (e ∷ es) = count_second e.event + seconds es

-- what the answer to a submit has to send (own)
abbrev pub sends_in : Result Receipt SubmitFault → List (List ℕ)
sends_in (Ok r) = sends_of r.reply
sends_in (Err fault.OutOfMemory) = []
sends_in (Err (fault.JournalFault r)) = sends_of r.reply
sends_in (Err (fault.Stopped n)) = []

-- what a submit was refused for, if it was (own)
abbrev pub fault_in : Result Receipt SubmitFault → Option SubmitFault
fault_in (Ok r) = None
fault_in (Err f) = Some f

-- what was received, as datagrams (own)
abbrev pub listed : Option (List ℕ) → List (List ℕ)
listed None = []
listed (Some d) = d ∷ []

abbrev pub came : {E : Type 0} → Result (Option (List ℕ)) E → List (List ℕ)
came (Ok d) = listed d
came (Err e) = []

-- what a circuit's entries are, beside what its port tells: the datagrams taken, and then those lost; those sent; the
-- pulls (own)
pub record Runs (c : ℕ) (es : List JournalEntry) (given offered : List (List ℕ)) (count : ℕ)
    (waits : Bool) (lost : List (List ℕ)) : Type 0 where
  pub takes : given ≡ (walk c setting_out es).takes ++ lost
  pub sent : offered ≡ (walk c setting_out es).sent
  pub pulls : (walk c setting_out es).pulls ≡ count
  pub waiting : (walk c setting_out es).waiting ≡ waits
  pub legal : (walk c setting_out es).legal ≡ true

-- at such a fault nothing was made (own)
abbrev pub MadeNothing : SubmitFault → Type 0
MadeNothing fault.OutOfMemory = Unit {0}
MadeNothing (fault.JournalFault r) = ⊥
MadeNothing (fault.Stopped n) = Unit {0}

-- how a circuit's run ended at a fault: at most one datagram was lost, and that one where its submit made nothing (own)
pub record Stops (c : ℕ) (es : List JournalEntry) (given offered : List (List ℕ))
    (f : SubmitFault) : Type 0 where
  pub pulls : ℕ
  pub waiting : Bool
  pub lost : List (List ℕ)
  pub runs : Runs c es given offered pulls waiting lost
  pub loses : (lost ≡ []) ⊎ ((length lost ≡ 1) × MadeNothing f)

-- after so many turns of a circuit's run, or at its fault (own)
abbrev pub Ran : ℕ → List JournalEntry → List (List ℕ) → List (List ℕ) → ℕ → ℕ
    → Option SubmitFault → Type 0
Ran c es given offered asked turns None = Runs c es given offered turns false [] × (asked ≡ turns)
Ran c es given offered asked turns (Some f) = Stops c es given offered f

-- after a take, and after a pull (own)
abbrev pub TookIn : ℕ → List JournalEntry → List (List ℕ) → List (List ℕ) → ℕ
    → Option SubmitFault → Type 0
TookIn c es given offered count None = (waits : Bool) × Runs c es given offered count waits []
TookIn c es given offered count (Some f) = Stops c es given offered f

abbrev pub Pulled : ℕ → List JournalEntry → List (List ℕ) → List (List ℕ) → ℕ
    → Option SubmitFault → Type 0
Pulled c es given offered count None = Runs c es given offered count false []
Pulled c es given offered count (Some f) = Stops c es given offered f

-- no entry of the history seen is marked (own)
abbrev pub IsCalm : Router → List Note → Type 0
IsCalm start seen = (replay (opening start) seen).stop ≡ None

-- at a journal's fault the history seen has this marked entry, and at no fault none (own)
abbrev pub IsMarked : Router → List Note → Option SubmitFault → Type 0
IsMarked start seen None = IsCalm start seen
IsMarked start seen (Some fault.OutOfMemory) = IsCalm start seen
IsMarked start seen (Some (fault.JournalFault r)) = (replay (opening start) seen).stop ≡ Some r.entry
IsMarked start seen (Some (fault.Stopped n)) = (replay (opening start) seen).stop ≡ Some n

-- what a ticker's entries are: seconds alone; unless it stopped at a fault, as many as its pacer gave, and these are so
-- many as it was to make or the pacer has ended (own)
abbrev pub Ticked : List JournalEntry → ℕ → ℕ → Bool → ℕ → Option SubmitFault → Type 0
Ticked es before now ended turns end = (seconds es ≡ length es)
    × (end ≡ None → (now ≡ before + seconds es) × ((seconds es ≡ turns) ⊎ (ended ≡ true)))
