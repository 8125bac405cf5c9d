use Rattle.std.proofs.Common.{◌+◌, ◌-◌, length}
use Rattle.router_routes.specs.Differences.{IsParting}
use Rattle.router_routes.proofs.differences.parted.Given as goal

abbrev pub invariant-loop-here : goal.invariant-loop-here
invariant-loop-here l = IsParting l.old l.new l.removed.items l.added.items l.here l.there

abbrev pub decreases-loop-here : goal.decreases-loop-here
decreases-loop-here l = (length l.old - l.here) + (length l.new - l.there)
