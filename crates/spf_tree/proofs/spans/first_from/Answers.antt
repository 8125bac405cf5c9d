use Rattle.std.proofs.Common.{◌≤◌, ℕ, subst}
use Rattle.spf_tree.specs.Walks.{start}
use Rattle.spf_tree.proofs.SearchLemmas.{right_by, no_row}
use Rattle.spf_tree.proofs.spans.first_from.Goals as goal

pub returns-else-number-node : goal.returns-else-number-node
returns-else-number-node c = record {
  within = c.loop-place.invariant.within;
  below = c.loop-place.invariant.below;
  above = right_by start c.args.rows.now c.args.node c.loop-place.place no_row c.requires.sorted c.loop-place-test.true (subst (λ (n : ℕ). c.args.node ≤ n) c.number.ensures c.if-number-node.false);
}
