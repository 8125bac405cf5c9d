use Rattle.std.proofs.Common.{ℕ, ◌<◌, ◌-◌, length, slice_index_or}
use Rattle.spf_tree.specs.declared.label.Label.{Label}
use Rattle.spf_tree.proofs.labels.next_place.Given as goal

abbrev pub invariant-loop-place : goal.invariant-loop-place
invariant-loop-place l = (k : ℕ) (d : Label) → k < l.place → (slice_index_or l.labels k d).node < l.node

abbrev pub decreases-loop-place : goal.decreases-loop-place
decreases-loop-place l = length l.labels - l.place
