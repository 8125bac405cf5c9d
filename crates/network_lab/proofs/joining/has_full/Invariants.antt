use Rattle.std.proofs.Common.{◌≡◌, length}
use Rattle.network_lab.specs.LabCauses as cause
use Rattle.network_lab.proofs.joining.has_full.Given as goal

-- what holds of those left holds of all
abbrev pub invariant-loop-left : goal.invariant-loop-left
invariant-loop-left l = cause.has_full l.configs l.left ≡ cause.has_full l.configs l.members

abbrev pub decreases-loop-left : goal.decreases-loop-left
decreases-loop-left l = length l.left
