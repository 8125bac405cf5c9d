use Rattle.std.proofs.Common.{◌-◌, ◌≤◌, List, length, drop}
use Rattle.spf_tree.specs.declared.row.Row.{Row}
use Rattle.router_routes.specs.Differences.{AreDifferences}
use Rattle.router_routes.proofs.differences.past_first.Given as goal

-- what is left decides
abbrev pub invariant-loop-place : goal.invariant-loop-place
invariant-loop-place l =
    (l.place ≤ length l.old) × (l.place ≤ length l.new)
    × ((removed added : List Row) → AreDifferences (drop l.place l.old) (drop l.place l.new) removed added → AreDifferences l.old l.new removed added)

abbrev pub decreases-loop-place : goal.decreases-loop-place
decreases-loop-place l = length l.old - l.place
