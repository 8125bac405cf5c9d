use Rattle.std.proofs.Common.{◌∷◌, [], ◌++◌, List, take, sym, ap, ◌∙◌}
use Rattle.model_router.specs.Routers.{Router}
use Rattle.weave_replay.proofs.PlaceLemmas.{take-more}
use Rattle.weave.proofs.replaying.copies_of.Goals as goal

pub loop-router-preserved : goal.loop-router-preserved
loop-router-preserved c =
    let routers = c.args.network.now.seen.routers in
    let r = c.router.result.now in
    c.in-Ok-add.ensures
    ∙ (ap (λ (rs : List Router). rs ++ (c.in-Ok.copy ∷ [])) c.loop-router.invariant
    ∙ (ap (λ (x : Router). take c.loop-router.router routers ++ (x ∷ [])) (c.in-Ok.ensures.start ∙ sym (c.requires.opening c.loop-router.router r c.router.ensures))
    ∙ sym (take-more routers c.loop-router.router r c.router.ensures)))
