-- A second of a router by its parts: its circuits, and each level with the circuits as they then
-- are (ISO 10589 7.3.5, 7.3.16.3, 8.2.5, 8.4.2; the parts: own).
use Rattle.std.specs.Prelude.{◌≡◌, ℕ, zero, suc, Bool, false, List, [], ◌∷◌, length, Option, Some, None, Vec}
use Rattle.std.specs.List.{AllByRecursion}
use Rattle.std.specs.declared.alloc.Global.{Global}
use Rattle.isis_base.specs.declared.level.Level.{Level}
use Rattle.model_router.specs.Maps.{find}
use Rattle.model_router.specs.OwnLsps.{is_due, renew}
use Rattle.model_router.specs.Places.{nth}
use Rattle.model_router.specs.Routers.{Circuit, Contents, Issued, LevelState, Router, is_open}
use Rattle.model_router.specs.Hellos.{follow_circuit}
use Rattle.model_router.specs.Ageing.{age}
use Rattle.model_router.specs.Seconds.{counted, circuit_less, waited}
use Rattle.model_router.specs.Sorted.{RisesFrom}
use Rattle.router_sending.specs.Drafts.{DraftView}
use Rattle.router_levels.specs.Drafts.{wants_of}
use Rattle.router_core.specs.Givens.{given}

-- a circuit a second later: its counters, then its holding times (8.2.3, 8.2.5, 8.4.1, 8.4.2)
abbrev pub later : Circuit → Circuit
later c = circuit_less (counted c)

-- the same of a circuit that remembers no boots (own)
abbrev pub bare_later : Circuit → Circuit
bare_later c = later (record c { boots = [] })

-- the circuits that a second goes by: these copies, where there are some, and else the circuits as they are (own)
abbrev pub seen_then : Option (Vec Circuit Global) → List Circuit → List Circuit
seen_then None circuits = circuits
seen_then (Some copies) circuits = copies.items

-- a level follows the circuit at a place, where there is one (own)
abbrev pub follow_one : LevelState → Level → ℕ → Option Circuit → LevelState
follow_one state level place None = state
follow_one state level place (Some c) =
    record state { book = follow_circuit false state.book place (is_open c level) }

-- a level follows the first so many circuits, in order (own)
abbrev pub follow_first : LevelState → Level → List Circuit → ℕ → LevelState
follow_first state level circuits zero = state
follow_first state level circuits (suc place) =
    follow_one (follow_first state level circuits place) level place (nth circuits place)

-- a level a second later, with the circuits as they then are, before its own LSPs are followed
-- (7.3.15.5, 7.3.16.3)
abbrev pub level_later : LevelState → Level → List Circuit → LevelState
level_later state level circuits =
    age (follow_first (waited state) level circuits (length circuits))

-- a draft of a level, signed or not (RFC 5304 2)
pub record IsMade (signed : Bool) (level : Level) (draft : DraftView) : Type 0 where
  pub keyed : signed ≡ draft.keyed
  pub on : draft.level ≡ level

-- ---- levels on which no own LSP is issued or purged

-- own
abbrev pub numbers : {V : Type 0} → List (ℕ × V) → List ℕ
numbers [] = []
numbers (pair ∷ pairs) = pair.0 ∷ numbers pairs

-- what is wanted of an LSP ID isn't issued now (7.3.6)
abbrev pub Waits : List (ℕ × Issued) → ℕ × Contents → Type 0
Waits own want = is_due (find own want.0) want.1 ≡ false

-- what is issued is what is wanted, and nothing of it is due (7.3.5, 7.3.6)
pub record IsQuiet (own : List (ℕ × Issued)) (wants : List (ℕ × Contents)) : Type 0 where
  pub waits : AllByRecursion (Waits own) wants
  pub same : numbers own ≡ numbers wants

-- ---- levels whose own LSPs are followed

-- these are drafts of a level, signed or not, of LSP IDs in order (own)
pub record AreMade (signed : Bool) (level : Level) (wants : List DraftView) : Type 0 where
  pub made : AllByRecursion (IsMade signed level) wants
  pub rises : RisesFrom 0 (wants_of wants)

-- a level whose own LSPs are followed by what these drafts say, where there are some, and else stays (7.3.6)
abbrev pub followed : Router → Level → Option (List DraftView) → LevelState → LevelState
followed r level None state = state
followed r level (Some wants) state = renew given r level state (wants_of wants)
