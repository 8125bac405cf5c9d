use Rattle.std.proofs.Common.{List, take, sym, subst}
use Rattle.std.specs.List.{AllByRecursion}
use Rattle.model_router.proofs.ListLemmas.{all-append}
use Rattle.network_lab.specs.declared.event.LabEvent.{LabEvent}
use Rattle.weave_replay.proofs.PlaceLemmas.{take-more}
use Rattle.weave_text.specs.ReadBack.{HasEvent}
use Rattle.weave_text.proofs.named.has_events.Goals as goal

pub loop-place-preserved : goal.loop-place-preserved
loop-place-preserved c =
    let P = HasEvent c.args.script.now c.args.net.now.seen in
    subst (λ (es : List LabEvent). AllByRecursion P es) (sym (take-more c.args.schedule.now c.loop-place.place c.in-Some.event.now (sym c.in-Some.ensures)))
    (all-append P (take c.loop-place.place c.args.schedule.now) _ c.loop-place.invariant (c.has_event.ensures c.if-not-has_event.false, tt))
