use Rattle.std.proofs.Common.{◌<◌, ℕ, subst}
use Rattle.spf_tree.proofs.SearchLemmas.{no_row}
use Rattle.spf_tree.proofs.PlaceLemmas.{above_by}
use Rattle.spf_tree.proofs.spans.past_from.Goals as goal

pub returns-else-number-node-clause-above : goal.returns-else-number-node-clause-above
returns-else-number-node-clause-above c =
    above_by c.args.rows.now c.args.node c.loop-place.place no_row c.requires.sorted c.loop-place-test.true (subst (λ (n : ℕ). c.args.node < n) c.number.ensures c.if-number-node.false)
