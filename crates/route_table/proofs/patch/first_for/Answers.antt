use Rattle.std.proofs.Common.{◌+◌, ◌-◌, ◌/◌, ap, arith}
use Rattle.route_table.specs.declared.candidate.Candidate.{Candidate}
use Rattle.route_table.specs.Ranks.{prefix_number}
use Rattle.route_table.proofs.FirstLemmas.{first-left, first-right}
use Rattle.route_table.proofs.patch.first_for.Goals as goal

pub loop-low-preserved-then-prefix_number-wanted : goal.loop-low-preserved-then-prefix_number-wanted
loop-low-preserved-then-prefix_number-wanted c =
    let e = c.prefix_number.ensures in
    let wanted = c.prefix_number-wanted.ensures in
    let same = ap (λ (r : Candidate). prefix_number r.prefix) c.index-sorted-middle.is in
    let less = c.if-prefix_number-wanted.true in
    record {
      wanted = wanted;
      order = omega arith;
      within = c.loop-low.invariant.within;
      below = first-left c.args.sorted.now (prefix_number c.args.prefix) (c.loop-low.low + (c.loop-low.high - c.loop-low.low) / 2) c.index-sorted-middle.result c.requires (omega arith) (omega arith);
      above = c.loop-low.invariant.above;
    }

pub loop-low-preserved : goal.loop-low-preserved
loop-low-preserved c =
    let e = c.prefix_number.ensures in
    let wanted = c.prefix_number-wanted.ensures in
    let same = ap (λ (r : Candidate). prefix_number r.prefix) c.index-sorted-middle.is in
    let less = c.if-prefix_number-wanted.false in
    record {
      wanted = wanted;
      order = omega arith;
      within = omega arith;
      below = c.loop-low.invariant.below;
      above = first-right c.args.sorted.now (prefix_number c.args.prefix) (c.loop-low.low + (c.loop-low.high - c.loop-low.low) / 2) c.index-sorted-middle.result c.requires (omega arith) (omega arith);
    }
