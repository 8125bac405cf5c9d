use Rattle.std.proofs.Common.{◌∙◌, ap, arith}
use Rattle.std.proofs.lemmas.List.Sums.{sum_by_more}
use Rattle.route_table.specs.declared.patch.Patch.{Patch}
use Rattle.route_table.specs.Ranks.{prefix_number}
use Rattle.route_table.specs.Patches.{more_by}
use Rattle.route_table.proofs.patch.count_coming.Goals as goal

pub loop-place-preserved : goal.loop-place-preserved
loop-place-preserved c =
    let more = λ (p : Patch). more_by c.args.routes.now (prefix_number p.prefix) p.route in
    let next = sum_by_more more c.args.list.now c.loop-place.place c.index-list-place.result c.loop-place-test.true in
    let here = c.more_by-many.ensures.more ∙ ap more c.index-list-place.is in
    record {
      sum = omega (arith, next, here, c.loop-place.invariant.sum);
      few = omega (arith, c.loop-place.invariant.few, c.more_by-many.ensures.few);
    }
