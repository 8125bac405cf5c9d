use Rattle.spf_tree.proofs.LabelLemmas.{right_half}
use Rattle.spf_tree.proofs.labels.next_place.Goals as goal

pub returns-else-labels-place : goal.returns-else-labels-place
returns-else-labels-place c = record {
  below = c.loop-place.invariant;
  above = right_half c.args.labels.now c.args.node c.loop-place.place _ c.requires.rising c.loop-place-test.true c.if-labels-place.false;
}
