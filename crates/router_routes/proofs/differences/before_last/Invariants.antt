use Rattle.std.proofs.Common.{◌≤◌, List, length, take}
use Rattle.spf_tree.specs.declared.row.Row.{Row}
use Rattle.router_routes.specs.Differences.{AreDifferences}
use Rattle.router_routes.proofs.differences.before_last.Given as goal

-- what is left decides
abbrev pub invariant-loop-end : goal.invariant-loop-end
invariant-loop-end l = (l.end ≤ length l.old) × (l.other ≤ length l.new) × ((removed added : List Row) → AreDifferences (take l.end l.old) (take l.other l.new) removed added → AreDifferences l.old l.new removed added)

abbrev pub decreases-loop-end : goal.decreases-loop-end
decreases-loop-end l = l.end
