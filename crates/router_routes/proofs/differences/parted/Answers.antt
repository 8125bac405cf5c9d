use Rattle.router_routes.proofs.DifferenceLemmas.{by-old, by-new, by-both, parting-ends}
use Rattle.router_routes.proofs.differences.parted.Goals as goal

pub loop-here-preserved-in-Old : goal.loop-here-preserved-in-Old
loop-here-preserved-in-Old c = by-old c.args.old.now c.args.new.now c.loop-here.removed.items c.loop-here.added.items c.put.new.rows.items c.loop-here.here c.loop-here.there _ c.in-Ok.ensures c.loop-here.invariant c.in-Old.ensures c.requires.new

pub loop-here-preserved-in-New : goal.loop-here-preserved-in-New
loop-here-preserved-in-New c = by-new c.args.old.now c.args.new.now c.loop-here.removed.items c.loop-here.added.items c.put-in-New.new.rows.items c.loop-here.here c.loop-here.there _ c.in-Ok-put.ensures c.loop-here.invariant c.in-New.ensures c.requires.old

pub loop-here-preserved : goal.loop-here-preserved
loop-here-preserved c = by-both c.args.old.now c.args.new.now c.loop-here.removed.items c.loop-here.added.items c.loop-here.here c.loop-here.there c.loop-here.invariant c.in-Both.ensures

pub returns : goal.returns
returns c = parting-ends c.args.old.now c.args.new.now c.loop-here.removed.items c.loop-here.added.items c.loop-here.here c.loop-here.there c.loop-here.invariant c.if-here-old.false c.if-there-new.false
