use Rattle.std.proofs.Common.{◌-◌, ◌≤◌, length}
use Rattle.spf_tree.proofs.table.first_from.Given as goal

abbrev pub invariant-loop-at : goal.invariant-loop-at
invariant-loop-at l = l.start ≤ l.at

abbrev pub decreases-loop-at : goal.decreases-loop-at
decreases-loop-at l = length l.table - l.at
