use Rattle.std.proofs.Common.{◌∙◌, ◌-◌, drop, arith, length-drop}
use Rattle.router_desk.proofs.DistinctLemmas.{apart-short}
use Rattle.router_desk.proofs.valid.are_apart.Goals as goal

pub returns : goal.returns
returns c =
    let size = length-drop (c.loop-place.place - 1) c.args.numbers.now in
    apart-short (drop (c.loop-place.place - 1) c.args.numbers.now) (omega (arith, size, c.loop-place-test.false, c.loop-place.invariant.1)) ∙ c.loop-place.invariant.0
