use Rattle.std.proofs.Common.{ℕ, ◌<◌, slice_index_or}
use Rattle.spf_tree.specs.declared.row.Row.{Row}
use Rattle.spf_tree.specs.Walks.{end}
use Rattle.spf_repair.specs.Feed.{IsOpen, IsFed, IsOfferedOn}
use Rattle.spf_repair.proofs.feed.feed_open.Given as goal

abbrev pub invariant-loop-place : goal.invariant-loop-place
invariant-loop-place l = record {
  fed : IsFed l.indexed.rows l.root l.labels l.queue;
  covers : (k : ℕ) (d : Row) → k < l.place → IsOpen l.labels (end (slice_index_or l.indexed.rows k d)) → IsOfferedOn l.labels l.root l.queue (slice_index_or l.indexed.rows k d);
}
