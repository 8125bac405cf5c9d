use Rattle.std.proofs.Common.{ℕ, ◌<◌, slice_index_or}
use Rattle.std.specs.List.{Contains}
use Rattle.spf_tree.proofs.table.add_lacking.Given as goal

-- what was there stays, and of the pairs so far each is in the other table, or its target is there
abbrev pub invariant-loop-place : goal.invariant-loop-place
invariant-loop-place l = record {
  kept : (node : ℕ) → Contains l.fn.nodes.items node → Contains l.nodes.items node;
  lacking : (k : ℕ) (d : ℕ × ℕ) → k < l.place → (Contains l.nodes.items (slice_index_or l.table k d).0 → ⊥) → Contains l.other (slice_index_or l.table k d);
}
