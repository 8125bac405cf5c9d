use Rattle.std.proofs.Common.{◌+◌, ◌-◌, ◌/◌, ap, arith}
use Rattle.route_table.specs.declared.route.Route.{Route}
use Rattle.route_table.specs.Ranks.{prefix_number}
use Rattle.route_table.proofs.PutLemmas.{search-left, search-right}
use Rattle.route_table.proofs.putting.place_of.Goals as goal

pub loop-low-preserved-then-prefix_number-wanted : goal.loop-low-preserved-then-prefix_number-wanted
loop-low-preserved-then-prefix_number-wanted c =
    let e = c.prefix_number.ensures in
    let same = ap (λ (r : Route). prefix_number r.prefix) c.index-routes-middle.is in
    let less = c.if-prefix_number-wanted.true in
    record {
      order = omega arith;
      within = c.loop-low.invariant.within;
      below = search-left c.args.routes.now c.args.wanted (c.loop-low.low + (c.loop-low.high - c.loop-low.low) / 2) c.index-routes-middle.result c.requires (omega arith) (omega arith);
      above = c.loop-low.invariant.above;
    }

pub loop-low-preserved : goal.loop-low-preserved
loop-low-preserved c =
    let e = c.prefix_number.ensures in
    let same = ap (λ (r : Route). prefix_number r.prefix) c.index-routes-middle.is in
    let less = c.if-prefix_number-wanted.false in
    record {
      order = omega arith;
      within = omega arith;
      below = c.loop-low.invariant.below;
      above = search-right c.args.routes.now c.args.wanted (c.loop-low.low + (c.loop-low.high - c.loop-low.low) / 2) c.index-routes-middle.result c.requires (omega arith) (omega arith);
    }
