use Rattle.std.proofs.Common.{ℕ, ◌<◌, ◌≤◌, length, slice_index_or}
use Rattle.spf_tree.specs.declared.row.Row.{Row}
use Rattle.spf_tree.specs.Walks.{start}
use Rattle.spf_tree.specs.Places.{AreSpans, node_at}
use Rattle.spf_tree.proofs.spans.spans_of.Given as goal

abbrev pub invariant-loop-place : goal.invariant-loop-place
invariant-loop-place l = record {
  so_far : AreSpans l.nodes l.rows l.spans.items l.place;
  within : l.from ≤ length l.rows;
  below : l.place < length l.nodes → (k : ℕ) (d : Row) → k < l.from → start (slice_index_or l.rows k d) < node_at l.nodes l.place;
}
