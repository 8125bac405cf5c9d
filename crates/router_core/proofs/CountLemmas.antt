-- How often a level's costs were repaired, once what comes is put in.
use Rattle.std.specs.Prelude.{MatchOption}
use Rattle.std.proofs.Common.{◌≡◌, Option, None, Some, sym, ap, subst}
use Rattle.isis_base.specs.declared.level.Level.{Level}
use Rattle.isis_base.specs.declared.level.Level.TheVariants as level
use Rattle.model_router.specs.Both.{at}
use Rattle.spf_tree.specs.Graphs.{times}
use Rattle.spf_repair.specs.Changes.{RepairedOf}
use Rattle.router_routes.specs.declared.coming.Coming.{Coming}
use Rattle.router_routes.specs.declared.coming.LevelAfter.{LevelAfter}
use Rattle.router_routes.specs.Coming.{HasCount, IsComing, IsPut, costs_after}
use Rattle.router_routes.specs.Counts.{Counts}
use Rattle.router_routes.specs.Following.{FollowingOf, IsFollowing}
use Rattle.router_routes.specs.Outlooks.{Outlook}

counts-same : (old new : RepairedOf) → new ≡ old → Counts old new
counts-same old new is = record { same = λ rows. ap (λ (r : RepairedOf). r.changes) is; changed = λ row other. absurd (other (ap (λ (r : RepairedOf). times r.graph.rows row) is)) }

counts-put : (old new : RepairedOf) (level : Option LevelAfter) → new ≡ costs_after level old → HasCount old level → Counts old new
counts-put old new None is count = counts-same old new is
counts-put old new (Some after) is count = subst (Counts old) (sym is) count

pub counts-next : (o : Outlook) (next : Option Coming) (old new : FollowingOf) → MatchOption next (IsFollowing o old) (λ c. IsComing o old c) → MatchOption next (new ≡ old) (λ c. IsPut old c new)
    → (l : Level) → Counts (at old.levels l) (at new.levels l)
counts-next o None old new follows is l = counts-same (at old.levels l) (at new.levels l) (ap (λ (f : FollowingOf). at f.levels l) is)
counts-next o (Some c) old new comes is level.One = counts-put old.levels.one new.levels.one c.one is.one comes.count_one
counts-next o (Some c) old new comes is level.Two = counts-put old.levels.two new.levels.two c.two is.two comes.count_two
