-- A router that was served, and its journal.
use Rattle.std.proofs.Common.{◌≡◌, ℕ, ◌+◌, Bool, false, List, [], slice_get, Option, IfSome, ⊎_elim, refl, arith}
use Rattle.model_router.specs.Routers.{Router}
use Rattle.isis_edge.specs.Told.{Wrote, WrotePrefix}
use Rattle.circuit_threads.specs.JournalText.{journal_text}
use Rattle.daemon_edge.specs.Closings.{Opening}
use Rattle.daemon_edge.specs.Ports.{IsFresh}
use Rattle.circuit_serve.specs.declared.end.ServeEnd.{ServeEnd}
use Rattle.circuit_serve.specs.declared.end.ServeEnd.TheVariants as serve
use Rattle.circuit_serve.specs.Ends.{AtEnd}
use Rattle.circuit_serve.proofs.Running.{sets_out}
use Rattle.circuit_serve.proofs.Gathered.{if_some_at}
use Rattle.circuit_serve.specs.declared.daemon_end.DaemonEnd.{DaemonEnd}
use Rattle.circuit_serve.specs.declared.daemon_end.DaemonEnd.TheVariants.{Done, NotStarted, WriteFault, OutOfMemory}
use Rattle.circuit_serve.specs.DaemonEnds.{end_of}
use Rattle.circuit_serve.specs.Histories.{JournalRan}

pub daemon_done : (e : ServeEnd) → end_of e ≡ Done → e ≡ serve.Done
daemon_done serve.Done is = refl
daemon_done serve.NotStarted is = absurd (cc is)
daemon_done (serve.Journal n) is = absurd (cc is)
daemon_done serve.OutOfMemory is = absurd (cc is)

pub daemon_fault : (e : ServeEnd) → end_of e ≡ WriteFault → (n : ℕ) × (e ≡ serve.Journal n)
daemon_fault serve.Done is = absurd (cc is)
daemon_fault serve.NotStarted is = absurd (cc is)
daemon_fault (serve.Journal n) is = (n, refl)
daemon_fault serve.OutOfMemory is = absurd (cc is)

pub daemon_memory : (e : ServeEnd) → end_of e ≡ OutOfMemory → e ≡ serve.OutOfMemory
daemon_memory serve.Done is = absurd (cc is)
daemon_memory serve.NotStarted is = absurd (cc is)
daemon_memory (serve.Journal n) is = absurd (cc is)
daemon_memory serve.OutOfMemory is = refl

pub daemon_not_started : (e : ServeEnd) → end_of e ≡ NotStarted → e ≡ serve.NotStarted
daemon_not_started serve.Done is = absurd (cc is)
daemon_not_started serve.NotStarted is = refl
daemon_not_started (serve.Journal n) is = absurd (cc is)
daemon_not_started serve.OutOfMemory is = absurd (cc is)

-- nothing was begun
pub journal_early : {P : Type 0} (opening : P → Opening) (given offered : P → List (List ℕ)) (asked : P → ℕ) (first : Router) (turns : ℕ) (ports : List P) (before : ℕ) (ended : Bool) (held held' : List ℕ) (end : DaemonEnd)
    → (¬ (end ≡ Done)) → (end ≡ OutOfMemory → Wrote held held' (journal_text [])) → WrotePrefix held held' (journal_text []) → ((i : ℕ) → IfSome (slice_get ports i) (λ x. IsFresh (given x) (offered x) (asked x))) → JournalRan opening given offered asked first turns ports ports before before ended held held' end
journal_early opening given offered asked first turns ports before ended held held' end not lines written fresh = record {
  entries = [];
  replayed = refl;
  written = written;
  whole = λ at. ⊎_elim (λ done. absurd (not done)) lines at;
  count = refl;
  openings = λ opens all i. all i;
  circuits = λ i port at.
      let f = if_some_at _ _ port at (fresh i) in
      let now : AtEnd (i + 1) [] (given port) (offered port) = record { pulls = 0; waiting = false; lost = []; runs = sets_out (i + 1) (given port) (offered port) f.0 f.1; few = omega arith } in
      (now, λ done. absurd (not done));
  others = λ d past. refl;
  ticker = (refl, λ done. absurd (not done));
}
