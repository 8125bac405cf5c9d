use Rattle.std.proofs.Common.{◌+◌, Bool, ◌∙◌, ap, subst, sym, arith}
use Rattle.timeline_text.specs.declared.fates.Counts.{Counts}
use Rattle.timeline_text.specs.Fates.{with_fate}
use Rattle.timeline_text.proofs.CountLemmas.{IsCountedSo, few, one-more}
use Rattle.timeline_text.proofs.fates.count_each.Goals as goal

pub with_fate-counts-requires-clause-arrive : goal.with_fate-counts-requires-clause-arrive
with_fate-counts-requires-clause-arrive c =
    let h = few c.args.forwarders.now c.args.address c.args.except c.loop-place.place c.loop-place.counts c.loop-place.invariant in
    omega (arith, h.0, c.loop-place-test.true)

pub with_fate-counts-requires-clause-loops : goal.with_fate-counts-requires-clause-loops
with_fate-counts-requires-clause-loops c =
    let h = few c.args.forwarders.now c.args.address c.args.except c.loop-place.place c.loop-place.counts c.loop-place.invariant in
    omega (arith, h.1, c.loop-place-test.true)

pub with_fate-counts-requires-clause-lost : goal.with_fate-counts-requires-clause-lost
with_fate-counts-requires-clause-lost c =
    let h = few c.args.forwarders.now c.args.address c.args.except c.loop-place.place c.loop-place.counts c.loop-place.invariant in
    omega (arith, h.2, c.loop-place-test.true)

pub loop-place-preserved : goal.loop-place-preserved
loop-place-preserved c =
    subst (λ (counts : Counts). IsCountedSo c.args.forwarders.now c.args.address c.args.except (c.loop-place.place + 1) counts)
    (sym (c.with_fate-counts.ensures ∙ ap (λ (excepted : Bool). with_fate c.loop-place.counts excepted c.in-Ok.found) c.is_excepted.ensures))
    (one-more c.args.forwarders.now c.args.address c.args.except c.loop-place.place c.loop-place.counts c.in-Ok.found c.loop-place.invariant c.in-Ok.ensures)
