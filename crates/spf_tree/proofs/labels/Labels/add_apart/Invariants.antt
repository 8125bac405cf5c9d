use Rattle.std.proofs.Common.{◌≡◌, ℕ, ◌<◌, length, slice_index_or}
use Rattle.std.specs.List.{Contains}
use Rattle.spf_tree.specs.declared.label.Label.{Label}
use Rattle.spf_tree.specs.Labels.{at}
use Rattle.spf_tree.proofs.labels.Labels.add_apart.Given as goal

-- what was there stays, and of the labels so far each that other labels have otherwise is there
abbrev pub invariant-loop-place : goal.invariant-loop-place
invariant-loop-place l = record {
  below : l.place < length l.self → (k : ℕ) (d : Label) → k < l.at → (slice_index_or l.other k d).node < (slice_index_or l.self l.place d).node;
  kept : (node : ℕ) → Contains l.fn.nodes.items node → Contains l.nodes.items node;
  apart : (k : ℕ) (d : Label) → k < l.place → (Contains l.nodes.items (slice_index_or l.self k d).node → ⊥) → at l.other (slice_index_or l.self k d).node ≡ (slice_index_or l.self k d).cost;
}
