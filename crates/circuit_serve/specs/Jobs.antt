-- What the threads of `serve` work on (own).
use Rattle.std.specs.Prelude.{◌≡◌, ℕ, ◌+◌, ◌≤◌, Bool, List, length, Option, Some}
use Rattle.model_router.specs.Routers.{Router}
use Rattle.router_core.specs.Events.{IsThere}
use Rattle.turn_lock.specs.declared.noted.Noted as noted
use Rattle.turn_lock.specs.declared.pass.Pass.{Pass}
use Rattle.turn_lock.specs.Passes.{turns_left, label, own, seen}
use Rattle.circuit_threads.specs.declared.journal.Journal.{Ghosts}
use Rattle.circuit_threads.specs.declared.behind.Behind.{Behind}
use Rattle.circuit_threads.specs.declared.behind.Start.{Start}
use Rattle.circuit_threads.specs.declared.entry.JournalEntry.{JournalEntry}
use Rattle.circuit_threads.specs.declared.entry.Note.{Note}
use Rattle.circuit_threads.specs.declared.entry.SubmitFault.{SubmitFault}
use Rattle.circuit_threads.specs.declared.shared.SharedRouter.{SharedRouter}
use Rattle.circuit_threads.specs.Sharing.{first_router, IsPassOf}
use Rattle.daemon_edge.specs.Closings.{Opening}
use Rattle.circuit_serve.specs.declared.job.Task.{Task}
use Rattle.circuit_serve.specs.declared.job.Task.TheVariants.{Ticker, Circuit}
use Rattle.circuit_serve.specs.Labels.{Only}
use Rattle.daemon_edge.specs.Ports.{IsFresh}
use Rattle.circuit_serve.specs.Walks.{Ran, Ticked, IsMarked}

module _ {P T : Type 0} (given offered : P → List (List ℕ)) (asked : P → ℕ) (count : T → ℕ) (ended : T → Bool) where
  -- what a task's entries are, beside what its port or its pacer tells (own)
  abbrev pub TaskRan : ℕ → ℕ → List JournalEntry → Task P T → Task P T → Option SubmitFault → Type 0
  TaskRan turns c es (Ticker t) (Ticker t') end = Ticked es (count t) (count t') (ended t') turns end
  TaskRan turns c es (Ticker t) (Circuit d' p') end = ⊥
  TaskRan turns c es (Circuit d p) (Ticker t') end = ⊥
  TaskRan turns c es (Circuit d p) (Circuit d' p') end =
      (d' ≡ d) × Ran c es (given p') (offered p') (asked p') turns end

module _ {J P T : Type 0} {journal : Ghosts J} {tells : noted.Ghosts (Behind J journal) Note (Start J)}
    (given offered : P → List (List ℕ)) (asked : P → ℕ) (count : T → ℕ) (ended : T → Bool) where
  -- what a task needs: turns enough; a circuit's pass has its label, the circuit is there, and its port is fresh (own)
  abbrev pub IsReady : Router → Task P T → ℕ → Pass (Behind J journal) Note (Start J) tells → Type 0
  IsReady r (Ticker t) turns p = turns ≤ turns_left p
  IsReady r (Circuit c port) turns p =
      (label p ≡ c) × (turns + turns ≤ turns_left p) × IsThere r c
      × IsFresh (given port) (offered port) (asked port)

  -- what a job's pass and task are after it ran (own)
  abbrev pub JobRan : SharedRouter J journal → ℕ → Task P T → Pass (Behind J journal) Note (Start J) tells → Task P T
      → Option (Pass (Behind J journal) Note (Start J) tells) → Option SubmitFault → Type 0
  JobRan s turns task p task' pass' end =
      (q : Pass (Behind J journal) Note (Start J) tells) × (pass' ≡ Some q) × IsPassOf s q × (label q ≡ label p)
      × (turns_left q + length (own q) ≡ turns_left p) × IsMarked (first_router s) (seen q) end
      × ((es : List JournalEntry) × Only (label p) (own q) (seen q) es × TaskRan given offered asked count ended turns (label p) es task task' end)

module _ {P T : Type 0} (opening : P → Opening) where
  -- a circuit's port was opened as the other (own)
  abbrev pub KeepsOpening : Task P T → Task P T → Type 0
  KeepsOpening (Ticker t) (Ticker t') = Unit {0}
  KeepsOpening (Ticker t) (Circuit d q) = ⊥
  KeepsOpening (Circuit c p) (Ticker t') = ⊥
  KeepsOpening (Circuit c p) (Circuit d q) = opening q ≡ opening p

  -- a circuit's port was opened so (own)
  abbrev pub IsOpened : Opening → Task P T → Type 0
  IsOpened o (Ticker t) = ⊥
  IsOpened o (Circuit c p) = opening p ≡ o

module _ {P T : Type 0} where
  -- the task is the ticker's (own)
  abbrev pub IsTicker : Task P T → Type 0
  IsTicker (Ticker t) = Unit {0}
  IsTicker (Circuit c p) = ⊥
