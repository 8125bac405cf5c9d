use Rattle.std.proofs.Common.{arith}
use Rattle.router_routes.proofs.DifferenceLemmas.{past-turn}
use Rattle.router_routes.proofs.differences.past_first.Goals as goal

-- src/differences.rt
pub loop-place-preserved : goal.loop-place-preserved
loop-place-preserved c =
    let in-old = c.loop-place-test.true in
    let in-new = c.if-place-new.true in
    (omega (arith, in-old), omega (arith, in-new), past-turn c.args.old.now c.args.new.now c.loop-place.place _ _ in-old in-new (c.is_same.ensures c.if-is_same.true) c.loop-place.invariant.2)
