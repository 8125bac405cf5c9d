-- How the two ends of a link stand to each other at a level (own).
use Rattle.std.specs.Prelude.{ℕ, ◌&&◌, false, [], ◌∷◌, if◌then◌else◌}
use Rattle.isis_base.specs.declared.level.Level.{Level}
use Rattle.model_router.specs.Both.{at}
use Rattle.model_router.specs.Places.{nth}
use Rattle.model_router.specs.Routers.{Router, level_of, book_of}
use Rattle.model_router.specs.AdjacencyLaws.{opens}
use Rattle.model_network.specs.Counts.{ahead, flags}
use Rattle.lab_facts.specs.Excepted.{excepted_of}
use Rattle.lab_facts.specs.declared.state.LinkState.{LinkState}

-- how many LSP IDs are excepted (own)
abbrev pub excepted : Router → Router → Level → ℕ
excepted a b level =
    excepted_of (level_of a level).gone (level_of b level).gone (book_of a level) (book_of b level)

-- where an end doesn't run the level (own)
abbrev pub no_state : LinkState
no_state = record { up = false; flags = 0 ∷ 0 ∷ []; ahead = 0 ∷ 0 ∷ []; excepted = 0 }

-- where both ends, each on the circuit at its place, run the level: whether both are open, the SRM
-- flags of each on the link, and in how many LSP IDs that neither let go each is ahead (own)
abbrev pub state_between : Router → ℕ → Router → ℕ → Level → LinkState
state_between a place b other level = record {
  up = opens (nth a.circuits place) level && opens (nth b.circuits other) level;
  flags = flags a place level ∷ flags b other level ∷ [];
  ahead = ahead a b level ∷ ahead b a level ∷ [];
  excepted = excepted a b level;
}

-- the state of a link at a level (own)
unfoldable pub state_of : Router → ℕ → Router → ℕ → Level → LinkState
state_of a place b other level =
    if at a.config.runs level && at b.config.runs level
    then state_between a place b other level
    else no_state
