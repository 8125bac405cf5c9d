-- A shared router as contracts see it: what it was made of, and its passes (own).
use Rattle.std.specs.Prelude.{◌≡◌, ℕ, ◌<◌, List, length, MatchResult, Result}
use mathlib.Core.List.{IsPrefix}
use Rattle.model_router.specs.Routers.{Router}
use Rattle.turn_lock.specs.declared.noted.Noted as noted
use Rattle.turn_lock.specs.declared.pass.Pass.{Pass}
use Rattle.turn_lock.specs.declared.lock.TurnOut.{TurnOut}
use Rattle.turn_lock.specs.Passes as passes
use Rattle.circuit_threads.specs.declared.journal.Journal.{Ghosts}
use Rattle.circuit_threads.specs.declared.behind.Behind.{Behind}
use Rattle.circuit_threads.specs.declared.behind.Start.{Start}
use Rattle.circuit_threads.specs.declared.entry.Note.{Note}
use Rattle.circuit_threads.specs.declared.shared.SharedRouter.{SharedRouter}
use Rattle.circuit_threads.specs.Shared.{start_at, Closed}

module _ {J : Type 0} {journal : Ghosts J} where
  -- the router and the journal that it was made of (own)
  abbrev pub start_of : SharedRouter J journal → Start J
  start_of s = start_at (λ (b : Behind J journal). b.notes.beginning) s.lock

  abbrev pub first_router : SharedRouter J journal → Router
  first_router s = (start_of s).router.value

  abbrev pub first_journal : SharedRouter J journal → J
  first_journal s = (start_of s).journal.value

  -- all turns that its passes had at first (own)
  abbrev pub all_turns : SharedRouter J journal → ℕ
  all_turns s = passes.all_turns s.lock

  module _ {tells : noted.Ghosts (Behind J journal) Note (Start J)} where
    -- the pass is one of its own (own)
    abbrev pub IsPassOf : SharedRouter J journal → Pass (Behind J journal) Note (Start J) tells
        → Type 0
    IsPassOf s p = passes.Belongs s.lock p

    -- all its turns are left or the pass's own (own)
    abbrev pub HasAll : SharedRouter J journal → Pass (Behind J journal) Note (Start J) tells
        → Type 0
    HasAll s p = passes.IsWhole s.lock p

    -- what comes back when it is closed with a pass: where as many turns of its lock were served as
    -- tickets drawn, the router and the journal after that many notes; else those two words (own)
    abbrev pub Closes : SharedRouter J journal → Pass (Behind J journal) Note (Start J) tells
        → Result (Router × J) TurnOut → Type 0
    Closes s p r =
        (tickets : ℕ) × (serving : ℕ) × passes.AreWords s.lock p tickets serving
        × MatchResult r
        (λ parts. (tickets ≡ serving) × (notes : List Note) × (length notes ≡ serving)
        × IsPrefix (passes.seen p) notes
        × Closed journal.tells journal.faults (start_of s) notes parts.0 parts.1)
        (λ out. (out ≡ record { tickets = tickets; serving = serving }) × (serving < tickets))
