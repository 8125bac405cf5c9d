use Rattle.std.proofs.Common.{◌∙◌, sym, arith}
use Rattle.spf_tree.proofs.SearchLemmas.{no_row}
use Rattle.spf_repair.proofs.EraseLemmas.{hang_more, hang_done, grown_trans}
use Rattle.spf_repair.proofs.erase.spread_hang.Goals as goal

pub returns-then-number-node-clause-here : goal.returns-then-number-node-clause-here
returns-then-number-node-clause-here c =
    let up = c.first_row-place.ensures.above c.loop-place.place no_row c.loop-place.auto.place c.loop-place-test.true in
    let is = c.number.ensures in
    let ne = c.if-number-node.true in
    hang_done c.args.rows.now c.args.root c.args.old.now c.args.node c.loop-place.marks c.loop-place.place no_row c.loop-place-test.true c.requires.sorted (omega (arith, up)) c.loop-place.invariant.here

pub loop-place-preserved : goal.loop-place-preserved
loop-place-preserved c = record {
  grown = grown_trans c.args.root c.args.marks.now c.loop-place.marks c.hang.new.marks c.args.nodes.now.items c.loop-place.nodes.items c.hang.new.nodes.items c.loop-place.invariant.grown c.in-Ok.ensures.grown;
  here = hang_more c.args.rows.now c.args.root c.args.old.now c.args.node c.loop-place.marks c.hang.new.marks c.loop-place.place c.number-in-loop-place.result no_row c.loop-place-test.true
      (sym c.number.ensures ∙ c.if-number-node.false) c.number-in-loop-place.ensures c.loop-place.invariant.here c.in-Ok.ensures.grown.kept c.in-Ok.ensures.marked;
}
