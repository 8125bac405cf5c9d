use Rattle.std.proofs.Common.{◌≡◌, ◌++◌, length, map}
use Rattle.network_lab.specs.LabNets.{next_end}
use Rattle.network_lab.proofs.joining.ends_of.Given as goal

-- those so far, and those that are left
abbrev pub invariant-loop-left : goal.invariant-loop-left
invariant-loop-left l =
    l.ends.items ++ map (next_end l.configs) l.left ≡ map (next_end l.configs) l.members

abbrev pub decreases-loop-left : goal.decreases-loop-left
decreases-loop-left l = length l.left
