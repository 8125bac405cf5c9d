use Rattle.spf_tree.proofs.HopLemmas.{choose_more, choose_all}
use Rattle.spf_tree.proofs.next.chosen.Goals as goal

pub loop-place-preserved : goal.loop-place-preserved
loop-place-preserved c = choose_more c.args.indexed.now.rows c.args.root c.args.labels.now c.args.target c.args.plain.now c.loop-place.hops.items c.choose.new.hops.items c.loop-place.place 0 c.loop-place-test.true c.loop-place.invariant c.in-Ok.ensures

pub returns : goal.returns
returns c = choose_all c.args.indexed.now.rows c.args.root c.args.labels.now c.args.target c.args.plain.now c.loop-place.hops.items c.loop-place.place c.loop-place-test.false c.loop-place.invariant
