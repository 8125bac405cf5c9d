use Rattle.std.proofs.Common.{◌≡◌, option_copied, ap, ◌∙◌}
use Rattle.model_router.specs.OwnLsps.{renew}
use Rattle.model_router.specs.Routers.{LevelState}
use Rattle.router_levels.specs.Drafts.{wants_of}
use Rattle.router_levels.specs.Views.{state_of}
use Rattle.router_core.specs.Givens.{given, leaks_of, is_attached}
use Rattle.router_core.specs.Seconds.{level_later}
use Rattle.router_core.proofs.SecondLemmas.{under-made}
use Rattle.router_core.proofs.passing.made_anew.Goals as goal

-- src/passing.rt
pub returns-clause-state : goal.returns-clause-state
returns-clause-state c r e =
    let l = c.args.level in
    let cs = c.args.circuits.now in
    let wants = c.args.wants in
    let state : state_of c.reserve.new.self ≡ level_later (state_of c.args.on.now) l cs =
    c.in_ok-reserve.ensures.state ∙ (c.pass_in_place.ensures.state ∙ ap (λ (s : LevelState). level_later s l cs) c.in_ok-later.ensures.state) in
    c.renew.ensures.state leaks_of is_attached r l (under-made (option_copied c.args.key) r l wants e c.requires.made.made)
    ∙ ap (λ (s : LevelState). renew given r l s (wants_of wants)) state
