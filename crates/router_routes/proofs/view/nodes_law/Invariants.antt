use Rattle.std.proofs.Common.{length}
use Rattle.router_routes.specs.Moved.{AreNodes}
use Rattle.router_routes.proofs.view.nodes_law.Given as goal

-- where those that are left are nodes, all are
abbrev pub invariant-loop-left : goal.invariant-loop-left
invariant-loop-left l = AreNodes l.left → AreNodes l.nodes

abbrev pub decreases-loop-left : goal.decreases-loop-left
decreases-loop-left l = length l.left
