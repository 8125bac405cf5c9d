use Rattle.std.proofs.Common.{ℕ, ◌<◌, slice_index_or}
use Rattle.std.specs.List.{Contains}
use Rattle.spf_tree.specs.declared.row.Row.{Row}
use Rattle.spf_tree.specs.Walks.{end}
use Rattle.spf_tree.proofs.nodes.have_ends.Given as goal

abbrev pub invariant-loop-place : goal.invariant-loop-place
invariant-loop-place l = (k : ℕ) (d : Row) → k < l.place → Contains l.nodes (end (slice_index_or l.rows k d))
