use Rattle.std.proofs.Common.{arith}
use Rattle.trace_core.proofs.ReachLemmas.{none-yet, one-way, whole}
use Rattle.trace_core.proofs.reaching.spread.Goals as goal

pub loop-number-init : goal.loop-number-init
loop-number-init g c = none-yet (g.W.Ways.ways c.args.among.now) (g.W.Ways.many c.args.among.now) c.args.place c.args.found.now.items

pub loop-number-preserved : goal.loop-number-preserved
loop-number-preserved g c =
    one-way (g.W.Ways.ways c.args.among.now) (g.W.Ways.many c.args.among.now) c.args.place c.loop-number.number c.args.found.now.items c.loop-number.found.items _ c.way.result
    c.way.ensures.is c.way.ensures.inside c.in-Ok.ensures c.loop-number.invariant

pub returns : goal.returns
returns g c =
    whole (g.W.Ways.ways c.args.among.now) (g.W.Ways.many c.args.among.now) c.args.place c.args.found.now.items c.loop-number.found.items c.loop-number.number (omega (arith, c.loop-number-test.false, c.count-number-end.ensures)) c.loop-number.invariant
