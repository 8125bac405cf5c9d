use Rattle.std.proofs.Common.{◌∷◌, [], ◌++◌, List, sym, ap, ◌∙◌}
use Rattle.weave_model.specs.Weavings.{Move}
use Rattle.weave.specs.Begins.{tracks_from}
use Rattle.weave.proofs.PlanLemmas.{tracks-more}
use Rattle.weave.proofs.plans.plans_of.Goals as goal

pub loop-router-preserved : goal.loop-router-preserved
loop-router-preserved c =
    c.in_ok-push-in-Ok.ensures.items
    ∙ (ap (λ (ts : List (List Move)). ts ++ (c.in-Ok.plan ∷ [])) c.loop-router.invariant
    ∙ (ap (λ (t : List Move). tracks_from 0 c.loop-router.router c.args.journals.now ++ (t ∷ [])) c.in-Ok.ensures ∙ sym (tracks-more c.loop-router.router c.args.journals.now)))
