use Rattle.std.proofs.Common.{◌∙◌, sym, arith}
use Rattle.router_routes.proofs.OwnLemmas.{before-turn}
use Rattle.router_routes.proofs.own.before_last.Goals as goal

pub loop-end-preserved : goal.loop-end-preserved
loop-end-preserved c =
    let some-old = c.loop-end-test.true in
    let some-new = c.if-other-gt0.true in
    let in-old = c.loop-end.invariant.0 in
    let in-new = c.loop-end.invariant.1 in
    let same = sym c.index-old-end.is ∙ c.is_same.ensures c.if-is_same.true ∙ c.index-new-other.is in
    (omega (arith, in-old), omega (arith, in-new), before-turn c.args.old.now c.args.new.now c.loop-end.end c.loop-end.other _ _ some-old some-new in-old in-new same c.loop-end.invariant.2)
