use Rattle.std.proofs.Common.{◌≤◌, get_or, ap, arith}
use Rattle.spf_tree.specs.Walks.{start}
use Rattle.spf_tree.proofs.SearchLemmas.{no_row}
use Rattle.spf_repair.proofs.ReplaceLemmas.{put_one, first_push, from_here, lower}
use Rattle.spf_repair.proofs.replace.put_below.Goals as goal

pub returns-then-number-node-clause-all : goal.returns-then-number-node-clause-all
returns-then-number-node-clause-all c =
    let same = ap start c.whole-row.ensures.same in
    let is = c.number.ensures in
    let high = c.if-number-node.true in
    let le : c.args.node ≤ start (get_or c.args.added.now c.loop-now.now no_row) = omega arith in
    lower c.args.added.now c.loop-now.now c.args.node (start (get_or c.args.added.now c.loop-now.now no_row)) le (from_here c.args.added.now c.loop-now.now no_row c.requires.sorted c.loop-now-test.true)

pub loop-now-preserved : goal.loop-now-preserved
loop-now-preserved c =
    let is = c.number.ensures in
    let low = c.if-number-node.false in
    let le : start c.whole-row.result ≤ c.args.node = omega arith in
    record {
      within = omega arith;
      put = λ rows removed place found from_node x.
          put_one rows removed c.args.added.now c.loop-now.merged.items c.push.new.self.items place found c.loop-now.now no_row c.whole-row.result c.loop-now-test.true c.whole-row.ensures.same c.whole-row.ensures.small c.requires.sorted
          (lower rows place (start c.whole-row.result) c.args.node le from_node) c.in-Ok.ensures.items (c.loop-now.invariant.put rows removed place found from_node x);
      first = λ rows many first. first_push rows c.loop-now.merged.items c.push.new.self.items c.whole-row.result many c.in-Ok.ensures.items (c.loop-now.invariant.first rows many first);
    }
