-- What `serve` leaves behind, however it ends (own).
use Rattle.std.specs.Prelude.{◌≡◌, ℕ, ◌+◌, ◌*◌, ◌<◌, Bool, List, [], length, slice_get, Some, Option, IfSome}
use Rattle.turn_lock.specs.declared.noted.Noted as noted
use Rattle.turn_lock.specs.declared.pass.Pass.{Pass}
use Rattle.turn_lock.specs.Passes.{turns_left, label, own, seen}
use Rattle.circuit_threads.specs.declared.journal.Journal.{Ghosts}
use Rattle.circuit_threads.specs.declared.behind.Behind.{Behind}
use Rattle.circuit_threads.specs.declared.behind.Start.{Start}
use Rattle.circuit_threads.specs.declared.entry.Note.{Note}
use Rattle.circuit_threads.specs.declared.entry.SubmitFault.{SubmitFault}
use Rattle.circuit_threads.specs.declared.shared.SharedRouter.{SharedRouter}
use Rattle.circuit_threads.specs.Sharing.{first_router, IsPassOf}
use Rattle.daemon_edge.specs.Closings.{Opening}
use Rattle.circuit_serve.specs.declared.end.ServeEnd.{ServeEnd}
use Rattle.circuit_serve.specs.declared.end.ServeEnd.TheVariants.{Done}
use Rattle.circuit_serve.specs.declared.job.Task.{Task}
use Rattle.circuit_serve.specs.declared.job.Task.TheVariants.{Ticker, Circuit}
use Rattle.circuit_serve.specs.Labels.{of_label, by_label}
use Rattle.circuit_serve.specs.Ends.{end_of, IsEnd, CircuitIs, TickerIs}

-- how many turns a circuit's worker makes for so many seconds (own)
abbrev pub circuit_turns : ℕ → ℕ
circuit_turns turns = 10 * turns

module _ {J T P : Type 0} {journal : Ghosts J} {tells : noted.Ghosts (Behind J journal) Note (Start J)}
    (count : T → ℕ) (ended : T → Bool) where
  -- the ticker's job after all ran, or not; its pass had so many turns (own)
  abbrev pub TickerRan : SharedRouter J journal → ℕ → ℕ → ℕ → Type 0 → Task P T
      → Option (Pass (Behind J journal) Note (Start J) tells) → Option SubmitFault → Type 0
  TickerRan s share before turns All (Circuit d port) pass end = ⊥
  TickerRan s share before turns All (Ticker t) pass end =
      (q : Pass (Behind J journal) Note (Start J) tells) × (pass ≡ Some q) × IsPassOf s q × (label q ≡ 0)
      × (turns_left q + length (own q) ≡ share) × IsEnd (first_router s) (seen q) (end_of end)
      × ((d : ℕ) → 0 < d → by_label d (own q) (seen q) ≡ [])
      × TickerIs (by_label 0 (own q) (seen q)) before (count t) (ended t) turns (All × (end_of end ≡ Done))

-- What stands at every end: the pass that comes back is the shared router's, of label 0, and has all turns
-- that are left and those that were taken; the ports come back in order, each opened as before; of each
-- circuit and of the ticker the entries are what its port and the pacer tell, and no other label has an entry (own).
module _ {J P : Type 0} {journal : Ghosts J} {tells : noted.Ghosts (Behind J journal) Note (Start J)}
    (opening : P → Opening) (given offered : P → List (List ℕ)) (asked : P → ℕ) where
  pub record Served (s : SharedRouter J journal) (turns : ℕ) (ports ports' : List P) (before now : ℕ) (ended : Bool)
      (p p' : Pass (Behind J journal) Note (Start J) tells) (end : ServeEnd) : Type 0 where
    pub pass : IsPassOf s p' × (label p' ≡ 0)
    pub share : turns_left p' + length (own p') ≡ turns_left p
    pub count : length ports' ≡ length ports
    pub openings : (opens : ℕ → Opening)
        → ((i : ℕ) → IfSome (slice_get ports i) (λ port. opening port ≡ opens i))
        → (i : ℕ) → IfSome (slice_get ports' i) (λ port. opening port ≡ opens i)
    pub circuits : (i : ℕ) (port : P) → slice_get ports' i ≡ Some port
        → CircuitIs given offered asked (circuit_turns turns) (i + 1) port (of_label (i + 1) (seen p'))
        (end ≡ Done)
    pub others : (d : ℕ) → length ports < d → of_label d (seen p') ≡ []
    pub ticker : TickerIs (of_label 0 (seen p')) before now ended turns (end ≡ Done)
    pub ends : IsEnd (first_router s) (seen p') end
