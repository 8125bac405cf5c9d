-- What the threads of `serve` work on.
use Rattle.std.proofs.Common.{◌≡◌, ℕ, ◌+◌, Bool, List, length, Option, Some, sym, refl, ◌∙◌, subst}
use Rattle.turn_lock.specs.declared.noted.Noted as noted
use Rattle.turn_lock.specs.declared.pass.Pass.{Pass}
use Rattle.turn_lock.specs.Passes.{turns_left, label, own, seen}
use Rattle.circuit_threads.specs.declared.journal.Journal.{Ghosts}
use Rattle.circuit_threads.specs.declared.behind.Behind.{Behind}
use Rattle.circuit_threads.specs.declared.behind.Start.{Start}
use Rattle.circuit_threads.specs.declared.entry.JournalEntry.{JournalEntry}
use Rattle.circuit_threads.specs.declared.entry.Note.{Note}
use Rattle.circuit_threads.specs.declared.entry.SubmitFault.{SubmitFault}
use Rattle.circuit_threads.specs.declared.shared.SharedRouter.{SharedRouter}
use Rattle.circuit_threads.specs.Sharing.{first_router, IsPassOf}
use Rattle.circuit_serve.specs.declared.job.Task.{Task}
use Rattle.circuit_serve.specs.declared.job.Task.TheVariants.{Ticker, Circuit}
use Rattle.circuit_serve.specs.Labels.{Only}
use Rattle.circuit_serve.specs.Walks.{Ran, Ticked, IsMarked}
use Rattle.circuit_serve.specs.Jobs.{TaskRan, JobRan}

module _ {J P T : Type 0} {journal : Ghosts J} {tells : noted.Ghosts (Behind J journal) Note (Start J)} (given offered : P → List (List ℕ)) (asked : P → ℕ) (count : T → ℕ) (ended : T → Bool)
    (s : SharedRouter J journal) (turns : ℕ) (task : Task P T) (p x q : Pass (Behind J journal) Note (Start J) tells) (end : Option SubmitFault) (same : p ≡ x) (belongs : IsPassOf s q) (left : turns_left q + length (own q) ≡ turns_left p)
    (marked : IsMarked (first_router s) (seen q) end) where
  abbrev Is : Pass (Behind J journal) Note (Start J) tells → Task P T → Type 0
  Is z task' = JobRan given offered asked count ended s turns task z task' (Some q) end

  abbrev TaskIs : ℕ → List JournalEntry → Task P T → Task P T → Type 0
  TaskIs l es t t' = TaskRan given offered asked count ended turns l es t t' end

  pub circuit_ran : (k : ℕ) (port port' : P) → task ≡ Circuit k port → label p ≡ k → label q ≡ k → ((es : List JournalEntry) × Only k (own q) (seen q) es × Ran k es (given port') (offered port') (asked port') turns end)
      → Is x (Circuit k port')
  circuit_ran k port port' is named named' ran = subst (λ (z : Pass (Behind J journal) Note (Start J) tells). Is z (Circuit k port')) same (
    q,
    refl,
    belongs,
    named' ∙ sym named,
    left,
    marked,
    (
      ran.0,
      subst (λ l. Only l (own q) (seen q) ran.0) (sym named) ran.1,
      subst (λ t. TaskIs (label p) ran.0 t (Circuit k port')) (sym is) (refl, subst (λ l. Ran l ran.0 (given port') (offered port') (asked port') turns end) (sym named) ran.2),
    ),
  )

  pub ticker_ran : (t t' : T) → task ≡ Ticker t → label q ≡ label p
      → ((es : List JournalEntry) × Only (label p) (own q) (seen q) es × Ticked es (count t) (count t') (ended t') turns end)
      → Is x (Ticker t')
  ticker_ran t t' is named ran = subst (λ (z : Pass (Behind J journal) Note (Start J) tells). Is z (Ticker t')) same (
    q,
    refl,
    belongs,
    named,
    left,
    marked,
    (ran.0, ran.1, subst (λ z. TaskIs (label p) ran.0 z (Ticker t')) (sym is) ran.2),
  )
