use Rattle.std.proofs.Common.{ℕ, List, Option, map, is_some, not, refl, sym, subst}
use Rattle.std.specs.List.{AllByRecursion}
use Rattle.model_router.specs.OwnLsps.{renew}
use Rattle.model_router.specs.Routers.{level_of}
use Rattle.model_router.specs.Sorted.{RisesFrom}
use Rattle.router_wanted.specs.declared.wanted.Wanted.{Wanted}
use Rattle.router_wanted.specs.Views.{wanted_of}
use Rattle.router_core.specs.Givens.{given}
use Rattle.router_core.specs.LevelSeconds.{IsShiftedTo}
use Rattle.router_core.specs.Seconds.{IsMade, level_later}
use Rattle.router_core.proofs.PassedLemmas.{renewed-second}
use Rattle.router_core.proofs.parts.Parts.level_renewed.Goals as goal

-- src/plan_second.rt
pub returns-in-Ok-drafts_of : goal.returns-in-Ok-drafts_of
returns-in-Ok-drafts_of c circuits are =
    let r = c.args.self.now in
    let l = c.args.level in
    let wants = c.in-Ok-drafts_of.wants in
    renewed-second c.args.asked (not c.args.asked) r l circuits wants (map wanted_of c.args.wanted.items) c.in-Ok.movers c.in-Ok-drafts_of.ensures.says are
    (record {
      made = subst (λ (key : Option (List ℕ)). AllByRecursion (IsMade (is_some key) l) wants) c.level_key.ensures c.in-Ok-drafts_of.ensures.made;
      rises = subst (RisesFrom 0) (sym c.in-Ok-drafts_of.ensures.says) c.requires.rises;
    })
    refl
    (λ asked. subst (λ (ws : List Wanted). IsShiftedTo c.in-Ok.movers r l (renew given r l (level_later (level_of r l) l circuits) (map wanted_of ws)).book) c.deref.ensures.value (c.in-Ok.ensures asked circuits))
