-- What a router keeps of its routes: what follows its databases, or nothing (own).
use Rattle.std.specs.Prelude.{◌≡◌, Option, Some, None}
use Rattle.isis_base.specs.declared.level.Level.{Level}
use Rattle.model_router.specs.Both.{at}
use Rattle.router_routes.specs.declared.coming.Coming.{Coming}
use Rattle.router_routes.specs.Coming.{IsPut}
use Rattle.router_routes.specs.Counts.{Counts}
use Rattle.router_routes.specs.Following.{FollowingOf}

-- what comes stands in the place of what is kept; where nothing is kept, nothing is put
abbrev pub IsPutIn : Option FollowingOf → Coming → Option FollowingOf → Type 0
IsPutIn None c new = new ≡ None
IsPutIn (Some old) c None = ⊥
IsPutIn (Some old) c (Some new) = IsPut old c new

-- a level's count of repairs rises by one exactly where some row that may be walked is there another number of times than before
abbrev pub AreCounted : Option FollowingOf → Option FollowingOf → Type 0
AreCounted None new = new ≡ None
AreCounted (Some old) None = ⊥
AreCounted (Some old) (Some new) = (level : Level) → Counts (at old.levels level) (at new.levels level)
