use Rattle.std.proofs.Common.{List, ap, sym, ◌∙◌, subst}
use Rattle.model_router.specs.Routers.{Router}
use Rattle.network_lab.specs.LabNets.{Seen}
use Rattle.weave_replay.specs.Replays.{IsTold}
use Rattle.weave.proofs.replaying.replay.Goals as goal

pub returns-in-Err-replayed-clause-err : goal.returns-in-Err-replayed-clause-err
returns-in-Err-replayed-clause-err c net stands =
    c.fault_of.ensures net c.args.journals.now
    (subst (λ (rs : List Router). IsTold rs c.args.journals.now c.in-Err-replayed.fault)
    (c.deref_mut.ensures.value ∙ (c.in-Ok.ensures ∙ ap (λ (s : Seen). s.routers) (sym stands.seen))) c.in-Err-replayed.ensures.err)
