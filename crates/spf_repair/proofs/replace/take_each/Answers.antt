use Rattle.std.proofs.Common.{◌+◌, take, arith}
use Rattle.spf_tree.specs.Graphs.{times}
use Rattle.spf_tree.proofs.SearchLemmas.{no_row}
use Rattle.spf_repair.proofs.ReplaceLemmas.{can_take, take_step, times_all}
use Rattle.spf_repair.proofs.replace.take_each.Goals as goal

pub take_one-requires : goal.take_one-requires
take_one-requires c = can_take c.loop-place.rows.items c.args.rows.now.items c.args.removed.now c.args.found c.loop-place.place no_row c.loop-place-test.true c.requires.there c.loop-place.invariant.times

pub loop-place-preserved : goal.loop-place-preserved
loop-place-preserved c =
    let len = c.take_one.ensures.len in
    let before = c.loop-place.invariant.len in
    record {
      times = λ x. take_step c.args.removed.now c.loop-place.place (times c.args.rows.now.items x + times (take c.args.found c.args.removed.now) x) (times c.loop-place.rows.items x) (times c.take_one.new.rows.items x) no_row x c.loop-place-test.true (c.take_one.ensures.times x) (c.loop-place.invariant.times x);
      len = omega arith;
      small = λ h. c.take_one.ensures.small (c.loop-place.invariant.small h);
    }

pub returns-clause-times : goal.returns-clause-times
returns-clause-times c = λ x.
    let all = times_all c.args.removed.now c.loop-place.place x c.loop-place-test.false in
    let so_far = c.loop-place.invariant.times x in
    omega arith
