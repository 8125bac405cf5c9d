use Rattle.std.proofs.Common.{ℕ, ◌<◌, ◌≤◌, ◌-◌, length, slice_index_or}
use Rattle.spf_tree.specs.declared.row.Row.{Row}
use Rattle.spf_tree.specs.Walks.{start}
use Rattle.spf_tree.proofs.spans.first_from.Given as goal

abbrev pub invariant-loop-place : goal.invariant-loop-place
invariant-loop-place l = record {
  within : l.place ≤ length l.rows;
  below : (k : ℕ) (d : Row) → k < l.place → start (slice_index_or l.rows k d) < l.node;
}

abbrev pub decreases-loop-place : goal.decreases-loop-place
decreases-loop-place l = length l.rows - l.place
