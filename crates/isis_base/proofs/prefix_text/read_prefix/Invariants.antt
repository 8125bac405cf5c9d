use Rattle.std.proofs.Common.{◌≡◌, Some, take}
use Rattle.isis_base.specs.PrefixFronts.{after_text, no_front}
use Rattle.isis_base.proofs.prefix_text.read_prefix.Given as goal

abbrev pub invariant-loop-place : goal.invariant-loop-place
invariant-loop-place l = after_text no_front (take l.place l.bytes) ≡ Some l.front
