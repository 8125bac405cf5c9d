use Rattle.std.proofs.Common.{◌≡◌, ℕ, ◌+◌, ◌<◌, slice_index_or}
use Rattle.std.specs.List.{Contains}
use Rattle.spf_tree.specs.declared.row.Row.{Row}
use Rattle.spf_tree.specs.Walks.{start, end}
use Rattle.spf_repair.specs.Erase.{HaveGrown, IsStruck, HasParallel}
use Rattle.spf_repair.proofs.erase.strike_all.Given as goal

abbrev pub invariant-loop-place : goal.invariant-loop-place
invariant-loop-place g l = record {
  grown : HaveGrown l.root l.fn.marks l.fn.nodes.items l.marks l.nodes.items;
  struck : (k : ℕ) (d : Row) → k < l.place → IsStruck l.rows l.root l.old l.marks (slice_index_or l.removed k d);
  spared : ((row : Row) → Contains l.removed row → HasParallel l.rows (start row) (end row) row.metric) → (l.marks ≡ l.fn.marks) × (l.nodes.items ≡ l.fn.nodes.items);
  steps : l.steps ≡ l.fn.steps + l.place;
}
