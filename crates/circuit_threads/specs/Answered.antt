-- What a submit answers, the note that its turn leaves, and the history behind its answer (own).
use Rattle.std.specs.Prelude.{◌≡◌, ℕ, List, map, length, Option, Some, None, Result, Ok, Err}
use Rattle.model_router.specs.Routers.{Router}
use Rattle.router_core.specs.declared.event.NodeEvent.{NodeEvent}
use Rattle.circuit_threads.specs.declared.entry.JournalEntry.{JournalEntry}
use Rattle.circuit_threads.specs.declared.entry.Note.{Note}
use Rattle.circuit_threads.specs.declared.entry.Note.TheVariants.{Nothing, Made, Marked}
use Rattle.circuit_threads.specs.declared.entry.Receipt.{Receipt}
use Rattle.circuit_threads.specs.declared.entry.SubmitFault.{SubmitFault}
use Rattle.circuit_threads.specs.declared.entry.SubmitFault.TheVariants as fault
use Rattle.circuit_threads.specs.History.{line_of, entries, opening, replay}

-- own
abbrev pub entry_of : ℕ → NodeEvent → Receipt → JournalEntry
entry_of pass event r = record { number = r.entry; pass = pass; event = event; reply = r.reply }

-- the note of a turn in which a pass of a label submitted an event: the receipt's entry, marked
-- where its append failed (own)
abbrev pub note_of : ℕ → NodeEvent → Result Receipt SubmitFault → Note
note_of pass event (Ok r) = Made (entry_of pass event r)
note_of pass event (Err fault.OutOfMemory) = Nothing
note_of pass event (Err (fault.JournalFault r)) = Marked (entry_of pass event r)
note_of pass event (Err (fault.Stopped n)) = Nothing

-- the pass that comes back from a submit, whatever it answers; and the answer (own)
abbrev pub pass_of : {P : Type 0} → Result (P × Receipt) (P × SubmitFault) → P
pass_of (Ok done) = done.0
pass_of (Err failed) = failed.0

abbrev pub answer_of : {P : Type 0} → Result (P × Receipt) (P × SubmitFault)
    → Result Receipt SubmitFault
answer_of (Ok done) = Ok done.1
answer_of (Err failed) = Err failed.1

-- the entries of the notes are those that the replay gives, and this one is marked, if one is (own)
pub record Replays (start : Router) (notes : List Note) (stop : Option ℕ) : Type 0 where
  pub lines : (replay (opening start) notes).lines ≡ map line_of (entries notes)
  pub stop_at : (replay (opening start) notes).stop ≡ stop

-- the history has so many entries, the last of which is the receipt's, or the one at which it
-- stopped (own)
abbrev pub IsAnswered : Router → List Note → Result Receipt SubmitFault → Type 0
IsAnswered start notes (Ok r) = (length (entries notes) ≡ r.entry) × Replays start notes None
IsAnswered start notes (Err fault.OutOfMemory) = Replays start notes None
IsAnswered start notes (Err (fault.JournalFault r)) =
    (length (entries notes) ≡ r.entry) × Replays start notes (Some r.entry)
IsAnswered start notes (Err (fault.Stopped n)) =
    (length (entries notes) ≡ n) × Replays start notes (Some n)
