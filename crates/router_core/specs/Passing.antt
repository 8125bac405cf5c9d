-- How a second passes in a level (own).
use Rattle.std.specs.Prelude.{◌≡◌, ◌≤◌, Bool, List, length, Option, IfSome}
use Rattle.isis_base.specs.declared.level.Level.{Level}
use Rattle.model_router.specs.Routers.{Circuit, LevelState, Router}
use Rattle.router_sending.specs.Drafts.{DraftView}
use Rattle.router_levels.specs.Views.{LevelView, state_of}
use Rattle.router_core.specs.declared.passing.Passing.{Passing}
use Rattle.router_core.specs.declared.passing.Passing.TheVariants.{Anew, InPlace}
use Rattle.router_core.specs.Seconds.{AreMade, followed, level_later}

-- there is room for all of these, whatever is erased before
pub record HasPlaces (on : LevelView) (wants : List DraftView) : Type 0 where
  pub held : length wants ≤ on.book.store.spare
  pub own : length wants ≤ on.own.spare

-- drafts are made under the level's key, and there is room for them; a level that was made anew has as many circuits
abbrev pub FitsPassing : LevelView → Bool → Level → Passing → Type 0
FitsPassing on signed level (InPlace wants) =
    IfSome wants (HasPlaces on) × IfSome wants (AreMade signed level)
FitsPassing on signed level (Anew later) = later.book.circuits ≡ on.book.circuits

-- a level becomes what it is once its second passed and these drafts were followed (7.3.6)
abbrev pub Leads : Router → Level → List Circuit → LevelState → Option (List DraftView) → Passing
    → Type 0
Leads r level circuits state wants (InPlace these) = these ≡ wants
Leads r level circuits state wants (Anew later) =
    state_of later ≡ followed r level wants (level_later state level circuits)
