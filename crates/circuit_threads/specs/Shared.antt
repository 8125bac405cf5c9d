-- What a shared router was made of, what may be submitted to it, and what comes back when it is
-- closed (own).
use Rattle.std.specs.Prelude.{◌≡◌, ℕ, ◌≤◌, List, Some}
use Rattle.std.specs.Option.{option_map}
use Rattle.model_router.specs.Routers.{Router}
use Rattle.isis_edge.specs.Faults.{Rose}
use Rattle.router_desk.specs.Desks.{DeskView, desk_of}
use Rattle.router_desk.specs.declared.config.Change.{Change}
use Rattle.router_desk.specs.declared.config.Change.TheVariants as change
use Rattle.router_core.specs.declared.event.NodeEvent.{NodeEvent}
use Rattle.router_core.specs.declared.event.NodeEvent.TheVariants as event
use Rattle.turn_lock.specs.declared.lock.TurnLock.{TurnLock}
use Rattle.turn_lock.specs.Passes.{given}
use Rattle.circuit_threads.specs.declared.behind.Start.{Start}
use Rattle.circuit_threads.specs.declared.entry.JournalEntry.{JournalEntry}
use Rattle.circuit_threads.specs.declared.entry.Note.{Note}
use Rattle.circuit_threads.specs.History.{marked, IsHistory}
use Rattle.circuit_threads.specs.Told.{Told, told_of}

-- ---- what it was made of

-- the router and the journal that a lock was given (own)
abbrev pub start_at : {T N J : Type 0} → (T → Start J) → TurnLock T N (Start J) → Start J
start_at begun lock = (given begun lock).beginning

-- what a desk knows of that router (own)
abbrev pub first_desk : {J : Type 0} → Start J → DeskView
first_desk start = desk_of start.router.value.config start.router.value.circuits

-- ---- what may be submitted

-- no prefix is changed while threads share a router (own)
abbrev pub KeepsPrefixesIn : Change → Type 0
KeepsPrefixesIn (change.Metric circuit metric) = Unit {0}
KeepsPrefixesIn (change.Prefix prefix metric) = ⊥
KeepsPrefixesIn (change.Overload on) = Unit {0}

abbrev pub KeepsPrefixes : NodeEvent → Type 0
KeepsPrefixes event.Second = Unit {0}
KeepsPrefixes (event.Take opened) = Unit {0}
KeepsPrefixes (event.Pull circuit) = Unit {0}
KeepsPrefixes (event.Change c) = KeepsPrefixesIn c

-- ---- what comes back

-- The router and the journal after the notes of all turns: the router is the replay of the history,
-- and the journal tells the history, beside the journal at first; its count of faults didn't fall, and where an
-- entry is marked, its append failed, and the count rose (own).
pub record Closed {J : Type 0} (tells : J → J → Told → Type 0) (faults : J → ℕ) (start : Start J)
    (notes : List Note) (router : Router) (journal : J) : Type 0 where
  pub history : IsHistory start.router.value router notes
      (option_map (λ (e : JournalEntry). e.number) (marked notes))
  pub told : ∥ tells start.journal.value journal (told_of notes) ∥₁
  pub later : faults start.journal.value ≤ faults journal
  pub fault : (e : JournalEntry) → marked notes ≡ Some e
      → Rose (faults start.journal.value) (faults journal)
