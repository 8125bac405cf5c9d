use Rattle.std.proofs.Common.{arith}
use Rattle.spf_tree.proofs.SearchLemmas.{no_row}
use Rattle.spf_repair.proofs.EraseLemmas.{no_parallel}
use Rattle.spf_repair.proofs.erase.has_parallel.Goals as goal

pub returns-then-number-from : goal.returns-then-number-from
returns-then-number-from c =
    let up = c.first_row-place.ensures.above c.loop-place.place no_row c.loop-place.auto.place c.loop-place-test.true in
    let is = c.number.ensures in
    let ne = c.if-number-from.true in
    no_parallel c.args.rows.now c.args.from c.args.to c.args.metric c.loop-place.place no_row c.requires c.loop-place-test.true (omega (arith, up)) c.loop-place.invariant
