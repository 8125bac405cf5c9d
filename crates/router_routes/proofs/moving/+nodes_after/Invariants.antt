use Rattle.std.proofs.Common.{length}
use Rattle.router_routes.proofs.moving.+nodes_after.Given as goal

-- each turn leaves one node less
abbrev pub decreases-nodes_after : goal.decreases-nodes_after
decreases-nodes_after l = length l.moved.nodes.now
