use Rattle.std.proofs.Common.{◌≡◌, ℕ, ◌+◌, ◌<◌, slice_index_or}
use Rattle.std.specs.List.{Contains}
use Rattle.spf_tree.specs.declared.row.Row.{Row}
use Rattle.spf_repair.specs.Feed.{IsFed, IsOfferedOn}
use Rattle.spf_repair.proofs.feed.feed_added.Given as goal

abbrev pub invariant-loop-place : goal.invariant-loop-place
invariant-loop-place g l = record {
  fed : IsFed l.rows l.root l.labels l.queue;
  kept : (offer : ℕ × ℕ) → Contains l.fn.queue offer → Contains l.queue offer;
  covers : (k : ℕ) (d : Row) → k < l.place → IsOfferedOn l.labels l.root l.queue (slice_index_or l.added k d);
  steps : l.steps ≡ l.fn.steps + l.place;
}
