use Rattle.std.proofs.Common.{◌≡◌, ℕ, ◌<◌, length, map, take, slice_index_or}
use Rattle.spf_tree.specs.declared.label.Label.{Label}
use Rattle.spf_tree.specs.Labels.{carry}
use Rattle.spf_tree.proofs.labels.Labels.carried.Given as goal

abbrev pub invariant-loop-place : goal.invariant-loop-place
invariant-loop-place l = record {
  items : l.items.items ≡ map (carry l.old l.marks) (take l.place l.nodes);
  below : l.place < length l.nodes → (k : ℕ) (d : Label) → k < l.at → (slice_index_or l.old k d).node < slice_index_or l.nodes l.place 0;
}
