use Rattle.std.proofs.Common.{ℕ, ◌<◌, ◌≤◌, ◌-◌, length, slice_index_or}
use Rattle.spf_tree.proofs.table.first_pair.Given as goal

abbrev pub invariant-loop-low : goal.invariant-loop-low
invariant-loop-low l = record {
  order : l.low ≤ l.high;
  within : l.high ≤ length l.pairs;
  below : (k : ℕ) (d : ℕ × ℕ) → k < l.low → (slice_index_or l.pairs k d).0 < l.target;
  above : (k : ℕ) (d : ℕ × ℕ) → l.high ≤ k → k < length l.pairs → l.target ≤ (slice_index_or l.pairs k d).0;
}

abbrev pub decreases-loop-low : goal.decreases-loop-low
decreases-loop-low l = l.high - l.low
