use Rattle.std.proofs.Common.{◌≡◌, ◌<◌, ◌∙◌, length, get_or, ap, arith}
use Rattle.std.proofs.lemmas.List.{get_or_default}
use Rattle.spf_repair.proofs.EraseLemmas.{erased_more, here_row, grown_trans}
use Rattle.spf_repair.proofs.erase.erase.Goals as goal

pub loop-many-preserved : goal.loop-many-preserved
loop-many-preserved c =
    let nodes = c.loop-many.nodes.items in
    let node = c.index-node.result.now in
    let many = c.loop-many.many in
    let len = c.len.ensures in
    let test = c.loop-many-test.true in
    let ok = c.loop-many.nodes.ok in
    let in' : many < length nodes = omega arith in
    let is : node ≡ get_or nodes many 0 = c.index-node.ensures ∙ get_or_default nodes many node 0 in' in
    record {
      grown = grown_trans c.args.root c.args.marks.now c.loop-many.marks c.spread_hang.new.marks c.args.nodes.now.items nodes c.spread_hang.new.nodes.items c.loop-many.invariant.grown c.in-Ok.ensures.grown;
      erasing = erased_more c.args.rows.now c.args.root c.args.old.now c.loop-many.marks c.spread_hang.new.marks nodes c.spread_hang.new.nodes.items many 0 node in' is c.loop-many.invariant.erasing c.in-Ok.ensures.grown
          (here_row c.args.rows.now c.args.root c.args.old.now node c.spread_hang.new.marks c.in-Ok.ensures.here);
      spared = λ e. let none = ap length (c.loop-many.invariant.spared e).1 in absurd (omega arith);
    }
