-- What a second makes of a level, before it passes (own).
use Rattle.std.specs.Prelude.{◌≡◌, ℕ, Bool, true, false, List, Option, None}
use Rattle.isis_base.specs.declared.level.Level.{Level}
use Rattle.model_router.specs.Both.{at}
use Rattle.model_router.specs.Books.{Book}
use Rattle.model_router.specs.Maps.{each}
use Rattle.model_router.specs.Routers.{Circuit, Contents, Issued, LevelState, Router, book_of, level_of}
use Rattle.model_router.specs.Seconds.{older}
use Rattle.model_router.specs.Sorted.{RisesFrom}
use Rattle.model_router.specs.Wanted.{wanted}
use Rattle.lsp_fragments.specs.Issues.{all_rest}
use Rattle.router_routes.specs.Told.{told_by}
use Rattle.router_core.specs.declared.movers.Movers.{Movers}
use Rattle.router_core.specs.declared.plan_second.LevelSecond.{LevelSecond}
use Rattle.router_core.specs.Calm.{AreLasting}
use Rattle.router_core.specs.Givens.{given}
use Rattle.router_core.specs.Plans.{AreDrafted, IsLaterAt}
use Rattle.router_core.specs.Seconds.{IsQuiet, followed, level_later}
use Rattle.router_core.specs.Settled.{IsSettled, faces}
use Rattle.router_core.specs.Shifts.{IsShifted}

-- a level's nodes tell this once its database is another one, where both stand in order (own)
abbrev pub IsShiftedTo : Option Movers → Router → Level → Book → Type 0
IsShiftedTo movers r level book =
    RisesFrom 0 (book_of r level).cells → RisesFrom 0 book.cells
    → IsShifted movers (at r.config.runs level) (told_by (book_of r level).cells) (told_by book.cells)

-- no live entry's time ends in a level within a second, and no own LSP is then issued for its age (ISO 10589 7.3.16.3, 7.3.5)
pub record IsResting (s : LevelState) : Type 0 where
  pub last : AreLasting s.book
  pub rests : all_rest s.own ≡ true

-- no live entry's time ends in a level within a second, and where these are wanted then, none of its own LSPs is issued or purged;
-- where it is settled, they say what is wanted (ISO 10589 7.3.16.3, 7.3.5, 7.3.6)
pub record IsCalmWith (s : LevelState) (wants : List (ℕ × Contents)) (settled : Bool) : Type 0 where
  pub last : AreLasting s.book
  pub quiet : IsQuiet (each (λ (_ : ℕ) (i : Issued). older i) s.own) wants
  pub said : settled ≡ true → IsSettled s.own wants

-- these are wanted with these circuits (ISO 10589 7.3.6)
abbrev pub AreWantedWith : Router → Level → List Circuit → List (ℕ × Contents) → Type 0
AreWantedWith r level circuits wants =
    (q : Router) → q.config ≡ r.config → faces q.circuits ≡ faces circuits
    → wants ≡ wanted given r q level

-- a level's own LSPs say what is wanted with these circuits (ISO 10589 7.3.6)
abbrev pub AreSettledBy : Router → Level → List Circuit → Type 0
AreSettledBy r level circuits =
    (q : Router) → q.config ≡ r.config → faces q.circuits ≡ faces circuits
    → IsSettled (level_of r level).own (wanted given r q level)

-- what a level is followed by, what its nodes tell then, and whether its own LSPs say what is wanted, with the circuits as they then
-- are; where they do, it isn't followed. What nodes tell is said where it was asked (own)
pub record IsLevelSecond (asked : Bool) (r : Router) (level : Level) (circuits : List Circuit) (s : LevelSecond) : Type 0 where
  pub is_later : IsLaterAt r level s.wants circuits
  pub made : AreDrafted r level s.wants
  pub answers : asked ≡ true → s.unasked ≡ false
  pub shifted : s.unasked ≡ false → IsShiftedTo s.movers r level
      (followed r level s.wants (level_later (level_of r level) level circuits)).book
  pub still : s.settled ≡ true → s.wants ≡ None
  pub says : s.settled ≡ true → AreSettledBy r level circuits
