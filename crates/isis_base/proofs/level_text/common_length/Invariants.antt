use Rattle.std.proofs.Common.{◌≡◌, ◌+◌, length, nat_eq}
use Rattle.std.specs.List.{common_prefix_len}
use Rattle.isis_base.proofs.level_text.common_length.Given as goal

abbrev pub invariant-loop-left : goal.invariant-loop-left
invariant-loop-left l = record {
  count : l.count + common_prefix_len nat_eq l.left l.rest ≡ common_prefix_len nat_eq l.word l.text;
  length : l.count + length l.rest ≡ length l.text;
}

abbrev pub decreases-loop-left : goal.decreases-loop-left
decreases-loop-left l = length l.left
