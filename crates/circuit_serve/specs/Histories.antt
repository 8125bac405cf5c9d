-- What a router that was served wrote and did (own).
use Rattle.std.specs.Prelude.{◌≡◌, ℕ, ◌+◌, ◌<◌, ◌==◌, ◌⊎◌, Bool, List, [], ◌∷◌, map, length, slice_get, Some, Option, IfSome, if◌then◌else◌}
use Rattle.model_router.specs.Routers.{Router}
use Rattle.isis_edge.specs.Told.{Wrote, WrotePrefix}
use Rattle.circuit_threads.specs.declared.entry.JournalEntry.{JournalEntry}
use Rattle.circuit_threads.specs.declared.entry.Note.TheVariants.{Made}
use Rattle.circuit_threads.specs.History.{line_of, opening as begun, replay}
use Rattle.circuit_threads.specs.JournalText.{journal_text}
use Rattle.daemon_edge.specs.Closings.{Opening}
use Rattle.circuit_serve.specs.Ends.{CircuitIs, TickerIs}
use Rattle.circuit_serve.specs.Served.{circuit_turns}
use Rattle.circuit_serve.specs.declared.daemon_end.DaemonEnd.{DaemonEnd}
use Rattle.circuit_serve.specs.declared.daemon_end.DaemonEnd.TheVariants.{Done, OutOfMemory}

-- the entries of the pass with a label, in order (own)
abbrev pub by_pass : ℕ → List JournalEntry → List JournalEntry
by_pass label [] = []
by_pass label (e ∷ entries) =
    if e.pass == label then e ∷ by_pass label entries else by_pass label entries

-- the entries are numbered from 1, and each has the reply that the model of the router, begun so, gives there (own)
abbrev pub AreReplayed : Router → List JournalEntry → Type 0
AreReplayed first entries =
    (replay (begun first) (map Made entries)).lines ≡ map line_of entries

-- What stands at every end of a router that was served behind a journal of text: there is one history, whose text was
-- written, in part at least, and whole lines alone at the ends Done and OutOfMemory; and the entries of each circuit and of the ticker are what its port and the pacer tell (own).
module _ {P : Type 0} (opening : P → Opening) (given offered : P → List (List ℕ)) (asked : P → ℕ) where
  pub record JournalRan (first : Router) (turns : ℕ) (ports ports' : List P) (before now : ℕ) (ended : Bool)
      (held held' : List ℕ) (end : DaemonEnd) : Type 0 where
    pub entries : List JournalEntry
    pub replayed : AreReplayed first entries
    pub written : WrotePrefix held held' (journal_text entries)
    pub whole : (end ≡ Done) ⊎ (end ≡ OutOfMemory) → Wrote held held' (journal_text entries)
    pub count : length ports' ≡ length ports
    pub openings : (opens : ℕ → Opening)
        → ((i : ℕ) → IfSome (slice_get ports i) (λ port. opening port ≡ opens i))
        → (i : ℕ) → IfSome (slice_get ports' i) (λ port. opening port ≡ opens i)
    pub circuits : (i : ℕ) (port : P) → slice_get ports' i ≡ Some port
        → CircuitIs given offered asked (circuit_turns turns) (i + 1) port (by_pass (i + 1) entries)
        (end ≡ Done)
    pub others : (d : ℕ) → length ports < d → by_pass d entries ≡ []
    pub ticker : TickerIs (by_pass 0 entries) before now ended turns (end ≡ Done)
