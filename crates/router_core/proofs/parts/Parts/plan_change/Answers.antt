use Rattle.std.proofs.Common.{refl}
use Rattle.model_router.specs.AdjacencyLaws.{place_of}
use Rattle.model_router.specs.Steps.{step}
use Rattle.router_core.specs.Events.{change_of}
use Rattle.router_core.specs.Givens.{given}
use Rattle.router_core.proofs.StepLemmas.{change-reply}
use Rattle.router_core.proofs.parts.Parts.plan_change.Goals as goal

-- src/plan_change.rt
pub returns : goal.returns
returns c =
    let r = c.args.self.now in
    let change = c.args.change in
    let event = change_of change in
    record {
      ready = (c.requires.fits, c.requires.reached);
      state = refl;
      reply = change-reply r (step given r event).router (place_of event) change;
      told = c.in_ok-told.ensures;
      marks = c.none.ensures _;
    }
