-- What a daemon wrote and did, from its configuration to its end (own).
use Rattle.std.specs.Prelude.{◌≡◌, ℕ, ◌+◌, ◌<◌, ◌⊎◌, Bool, List, [], ◌++◌, map, length, slice_get, Some, Option}
use Rattle.model_router.specs.Routers.{Router}
use Rattle.model_router.specs.Starts.{start}
use Rattle.isis_edge.specs.Told.{Wrote, WrotePrefix}
use Rattle.router_desk.specs.declared.config.Config.{Config}
use Rattle.router_desk.specs.Configs.{config_of, circuits_of}
use Rattle.circuit_threads.specs.declared.entry.JournalEntry.{JournalEntry}
use Rattle.circuit_threads.specs.JournalText.{journal_text}
use Rattle.daemon_edge.specs.declared.place.CircuitPlace.{CircuitPlace}
use Rattle.daemon_edge.specs.Closings.{Closing}
use Rattle.daemon_edge.specs.Ports.{Adds}
use Rattle.circuit_serve.specs.Ends.{CircuitIs, TickerIs}
use Rattle.circuit_serve.specs.Served.{circuit_turns}
use Rattle.circuit_serve.specs.declared.daemon_end.DaemonEnd.{DaemonEnd}
use Rattle.circuit_serve.specs.declared.daemon_end.DaemonEnd.TheVariants.{Done, OutOfMemory}
use Rattle.circuit_serve.specs.Histories.{by_pass, AreReplayed}
use Rattle.circuit_serve.specs.Openings.{openings, counted}

-- the router of a configuration as it begins in a boot (own)
abbrev pub first_router : Config → ℕ → Router
first_router config boot = start (config_of config) boot (circuits_of config)

-- What stands at every end of a daemon: there is one history, which begins at the router's start, and whose text was
-- written, in part at least: whole at the end Done, and where memory ran out nothing or whole lines; ports were opened and closed in order, each once and at its circuit's place, all of them
-- unless an opening was refused, and no other; and the entries of each circuit and of the ticker are what its port and
-- the pacer tell (own).
pub record DaemonRan (config : Config) (places : List CircuitPlace) (boot turns before now : ℕ) (ended : Bool)
    (held held' : List ℕ) (opened opened' : ℕ) (closed closed' : List Closing)
    (end : DaemonEnd) : Type 0 where
  pub entries : List JournalEntry
  pub ports : List Closing
  pub used : List CircuitPlace
  pub unused : List CircuitPlace
  pub replayed : AreReplayed (first_router config boot) entries
  pub written : WrotePrefix held held' (journal_text entries)
  pub whole : end ≡ Done → Wrote held held' (journal_text entries) × (unused ≡ [])
  pub lines : end ≡ OutOfMemory → (held' ≡ held) ⊎ Wrote held held' (journal_text entries)
  pub places_used : used ++ unused ≡ places
  pub openings_made : map (λ port. port.opening) ports ≡ openings 1 used
  pub opened_so : opened' ≡ counted (length used) opened
  pub closed_so : Adds closed closed' ports
  pub circuits : (i : ℕ) (port : Closing) → slice_get ports i ≡ Some port
      → CircuitIs (λ (c : Closing). c.given) (λ (c : Closing). c.offered) (λ (c : Closing). c.asked)
      (circuit_turns turns) (i + 1) port (by_pass (i + 1) entries) (end ≡ Done)
  pub others : (d : ℕ) → length places < d → by_pass d entries ≡ []
  pub ticker : TickerIs (by_pass 0 entries) before now ended turns (end ≡ Done)
