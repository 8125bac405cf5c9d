-- How `serve` ends, and what its workers are then (own).
use Rattle.std.specs.Prelude.{◌⊎◌, ◌≡◌, ◌≢◌, ℕ, ◌+◌, ◌<◌, ◌≤◌, Bool, List, [], length, Option, Some, None, slice_get, true}
use Rattle.model_router.specs.Routers.{Router}
use Rattle.turn_lock.specs.declared.noted.Noted as noted
use Rattle.turn_lock.specs.declared.pass.Pass.{Pass}
use Rattle.turn_lock.specs.Passes.{turns_left, label, own, seen}
use Rattle.circuit_threads.specs.declared.journal.Journal.{Ghosts}
use Rattle.circuit_threads.specs.declared.behind.Behind.{Behind}
use Rattle.circuit_threads.specs.declared.behind.Start.{Start}
use Rattle.circuit_threads.specs.declared.entry.JournalEntry.{JournalEntry}
use Rattle.circuit_threads.specs.declared.entry.Note.{Note}
use Rattle.circuit_threads.specs.declared.entry.SubmitFault.{SubmitFault}
use Rattle.circuit_threads.specs.declared.entry.SubmitFault.TheVariants as fault
use Rattle.circuit_threads.specs.declared.shared.SharedRouter.{SharedRouter}
use Rattle.circuit_threads.specs.History.{opening, replay}
use Rattle.circuit_threads.specs.Sharing.{first_router, IsPassOf}
use Rattle.router_core.specs.Events.{IsThere}
use Rattle.daemon_edge.specs.declared.spawning.Started.{Started}
use Rattle.daemon_edge.specs.declared.spawning.Started.TheVariants as started
use Rattle.circuit_serve.specs.declared.end.ServeEnd.{ServeEnd}
use Rattle.circuit_serve.specs.declared.end.ServeEnd.TheVariants.{Done, NotStarted, Journal, OutOfMemory}
use Rattle.circuit_serve.specs.declared.job.Task.{Task}
use Rattle.circuit_serve.specs.declared.job.Task.TheVariants.{Ticker, Circuit}
use Rattle.circuit_serve.specs.Labels.{by_label}
use Rattle.daemon_edge.specs.Ports.{IsFresh}
use Rattle.circuit_serve.specs.Walks.{seconds, Runs, Ran, IsCalm}

-- ---- ends

abbrev pub end_of : Option SubmitFault → ServeEnd
end_of None = Done
end_of (Some fault.OutOfMemory) = OutOfMemory
end_of (Some (fault.JournalFault r)) = Journal r.entry
end_of (Some (fault.Stopped n)) = Journal n

abbrev pub end_of_start : Started → ServeEnd
end_of_start started.All = Done
end_of_start started.Refused = NotStarted
end_of_start started.OutOfMemory = OutOfMemory

-- of two ends the one that is answered: NotStarted, then a journal's fault, then want of memory (own)
abbrev pub first_end : ServeEnd → ServeEnd → ServeEnd
first_end NotStarted b = NotStarted
first_end (Journal n) NotStarted = NotStarted
first_end (Journal n) (Journal m) = Journal n
first_end (Journal n) OutOfMemory = Journal n
first_end (Journal n) Done = Journal n
first_end OutOfMemory NotStarted = NotStarted
first_end OutOfMemory (Journal m) = Journal m
first_end OutOfMemory OutOfMemory = OutOfMemory
first_end OutOfMemory Done = OutOfMemory
first_end Done b = b

-- a journal's fault names an entry that is marked; where all was done, and at want of memory, none is (own)
abbrev pub IsEnd : Router → List Note → ServeEnd → Type 0
IsEnd start seen Done = IsCalm start seen
IsEnd start seen NotStarted = Unit {0}
IsEnd start seen (Journal n) = (replay (opening start) seen).stop ≡ Some n
IsEnd start seen OutOfMemory = IsCalm start seen

-- ---- what a circuit's entries are at every end: all datagrams that its port gave were taken, in order, but for a last
-- one at most, and what it was offered is what they sent (own)
pub record AtEnd (c : ℕ) (es : List JournalEntry) (given offered : List (List ℕ)) : Type 0 where
  pub pulls : ℕ
  pub waiting : Bool
  pub lost : List (List ℕ)
  pub runs : Runs c es given offered pulls waiting lost
  pub few : length lost ≤ 1

module _ {P : Type 0} (given offered : P → List (List ℕ)) (asked : P → ℕ) where
  -- at every end, and where all went well (own)
  abbrev pub CircuitIs : ℕ → ℕ → P → List JournalEntry → Type 0 → Type 0
  CircuitIs turns c port es Well =
      AtEnd c es (given port) (offered port)
      × (Well → Ran c es (given port) (offered port) (asked port) turns None)

  module _ {J T : Type 0} {journal : Ghosts J} {tells : noted.Ghosts (Behind J journal) Note (Start J)} where
    -- a circuit's job before it runs (own)
    abbrev pub IsNew : SharedRouter J journal → ℕ → ℕ → Task P T → Option (Pass (Behind J journal) Note (Start J) tells)
        → Option SubmitFault → Type 0
    IsNew s turns c (Ticker t) pass end = ⊥
    IsNew s turns c (Circuit d port) pass end =
        (d ≡ c) × (end ≡ None) × IsThere (first_router s) c × IsFresh (given port) (offered port) (asked port)
        × ((p : Pass (Behind J journal) Note (Start J) tells) × (pass ≡ Some p) × IsPassOf s p × (label p ≡ c)
        × (own p ≡ []) × (turns_left p ≡ turns + turns) × IsCalm (first_router s) (seen p))

    -- a circuit's job after all ran, or not (own)
    abbrev pub IsRun : SharedRouter J journal → ℕ → ℕ → Type 0 → Task P T
        → Option (Pass (Behind J journal) Note (Start J) tells) → Option SubmitFault → Type 0
    IsRun s turns c All (Ticker t) pass end = ⊥
    IsRun s turns c All (Circuit d port) pass end =
        (q : Pass (Behind J journal) Note (Start J) tells) × (pass ≡ Some q) × IsPassOf s q
        × (turns_left q + length (own q) ≡ turns + turns) × IsEnd (first_router s) (seen q) (end_of end)
        × ((d : ℕ) → d ≢ c → by_label d (own q) (seen q) ≡ [])
        × CircuitIs turns c port (by_label c (own q) (seen q)) (All × (end_of end ≡ Done))

  module _ {J : Type 0} {journal : Ghosts J} {tells : noted.Ghosts (Behind J journal) Note (Start J)} where
    -- what a pass has of the labels of some circuits, whose ports these are (own)
    pub record Gathers (turns : ℕ) (ports : List P) (p : Pass (Behind J journal) Note (Start J) tells)
        (Well : Type 0) : Type 0 where
      pub circuits : (i : ℕ) (port : P) → slice_get ports i ≡ Some port
          → CircuitIs turns (i + 1) port (by_label (i + 1) (own p) (seen p)) Well
      pub others : (d : ℕ) → length ports < d → by_label d (own p) (seen p) ≡ []

-- a ticker's entries at every end, and where all went well (own)
abbrev pub TickerIs : List JournalEntry → ℕ → ℕ → Bool → ℕ → Type 0 → Type 0
TickerIs es before now ended turns Well = (seconds es ≡ length es)
    × (Well → (now ≡ before + seconds es) × ((seconds es ≡ turns) ⊎ (ended ≡ true)))
