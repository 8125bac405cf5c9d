use Rattle.std.proofs.Common.{◌≡◌, length}
use Rattle.lab_script.specs.Counts.{has_twice}
use Rattle.lab_script.proofs.lab_links.has_twice.Given as goal

abbrev pub invariant-loop-left : goal.invariant-loop-left
invariant-loop-left l = has_twice l.left ≡ has_twice l.numbers

abbrev pub decreases-loop-left : goal.decreases-loop-left
decreases-loop-left l = length l.left
