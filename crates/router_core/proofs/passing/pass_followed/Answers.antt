use Rattle.std.proofs.Common.{◌≡◌, Option, is_some, option_copied, IfSome, sym, ap, subst, ◌∙◌}
use Rattle.std.specs.Prelude.{List}
use Rattle.model_router.specs.OwnLsps.{renew}
use Rattle.model_router.specs.Routers.{LevelState}
use Rattle.router_sending.specs.Drafts.{DraftView}
use Rattle.router_levels.specs.Drafts.{wants_of}
use Rattle.router_levels.specs.Views.{state_of}
use Rattle.router_core.specs.Givens.{given, leaks_of, is_attached}
use Rattle.router_core.specs.Seconds.{AreMade, followed, level_later}
use Rattle.router_core.proofs.SecondLemmas.{under-made}
use Rattle.router_core.proofs.passing.pass_followed.Goals as goal

-- src/passing.rt
pub returns-in-Some-clause-state : goal.returns-in-Some-clause-state
returns-in-Some-clause-state c r e =
    let l = c.args.level in
    let wants = c.in-Some.wants in
    let later = level_later (state_of c.args.on.now) l c.args.circuits.now in
    let made : AreMade (is_some (option_copied c.args.key)) l wants =
    subst (λ (o : Option (List DraftView)). IfSome o (AreMade (is_some (option_copied c.args.key)) l)) c.in-Some.is c.requires.made in
    subst (λ (o : Option (List DraftView)). state_of c.renew.new.self ≡ followed r l o later) (sym c.in-Some.is)
    (c.renew.ensures.state leaks_of is_attached r l (under-made (option_copied c.args.key) r l wants e made.made)
    ∙ ap (λ (s : LevelState). renew given r l s (wants_of wants)) c.pass_in_place.ensures.state)
