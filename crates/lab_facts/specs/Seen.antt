-- What a router holds of its own LSP IDs that was seen before (own).
use Rattle.std.specs.Prelude.{◌≡◌, false, List}
use Rattle.std.specs.List.{AllByRecursion}
use Rattle.isis_base.specs.declared.level.Level.{Level}
use Rattle.isis_base.specs.declared.level.Level.TheVariants as level
use Rattle.model_router.specs.Routers.{Router, book_of}
use Rattle.lab_facts.specs.declared.levels_to_see.LevelsToSee.{LevelsToSee}
use Rattle.lab_facts.specs.Joined.{In}
use Rattle.lab_facts.specs.Sightings.{Sighting, own_lsps, sightings_of}

-- all that a router holds live of its own LSP IDs of a level was seen in these states
abbrev pub IsSeen : List Router → Level → Router → Type 0
IsSeen past level r =
    AllByRecursion (λ (s : Sighting). In s (sightings_of past level))
    (own_lsps r.config.system (book_of r level).cells)

-- it is enough to look at these levels of a router: of each other one all was seen
pub record AreEnough (levels : LevelsToSee) (past : List Router) (r : Router) : Type 0 where
  pub one : levels.one ≡ false → IsSeen past level.One r
  pub two : levels.two ≡ false → IsSeen past level.Two r
