use Rattle.std.proofs.Common.{◌≡◌, ℕ, ◌<◌, ◌≤◌, slice_index_or}
use Rattle.spf_tree.specs.declared.row.Row.{Row}
use Rattle.spf_tree.specs.Walks.{start, end}
use Rattle.spf_repair.proofs.erase.has_parallel.Given as goal

abbrev pub invariant-loop-place : goal.invariant-loop-place
invariant-loop-place l = (k : ℕ) (d : Row) → k < l.place → start (slice_index_or l.rows k d) ≡ l.from → end (slice_index_or l.rows k d) ≡ l.to → (slice_index_or l.rows k d).metric ≤ l.metric → ⊥
