use Rattle.std.proofs.Common.{◌+◌, ◌-◌, ◌/◌, ℕ, arith}
use Rattle.spf_tree.proofs.SearchLemmas.{left_by, right_by}
use Rattle.spf_tree.proofs.TableLemmas.{targets_rise}
use Rattle.spf_tree.proofs.table.first_pair.Goals as goal

pub loop-low-preserved-then-pairs-middle : goal.loop-low-preserved-then-pairs-middle
loop-low-preserved-then-pairs-middle c = record {
  order = omega arith;
  within = c.loop-low.invariant.within;
  below = left_by (λ (p : ℕ × ℕ). p.0) c.args.pairs.now c.args.target (c.loop-low.low + (c.loop-low.high - c.loop-low.low) / 2) _ (targets_rise c.args.pairs.now c.requires.rising) (omega arith) c.if-pairs-middle.true;
  above = c.loop-low.invariant.above;
}

pub loop-low-preserved : goal.loop-low-preserved
loop-low-preserved c = record {
  order = omega arith;
  within = omega arith;
  below = c.loop-low.invariant.below;
  above = right_by (λ (p : ℕ × ℕ). p.0) c.args.pairs.now c.args.target (c.loop-low.low + (c.loop-low.high - c.loop-low.low) / 2) _ (targets_rise c.args.pairs.now c.requires.rising) (omega arith) c.if-pairs-middle.false;
}
