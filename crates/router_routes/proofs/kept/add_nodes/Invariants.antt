use Rattle.std.proofs.Common.{◌≡◌, true, ◌⊎◌, length}
use Rattle.std.specs.List.{Contains}
use Rattle.isis_base.specs.declared.identifiers.NodeId.{NodeId}
use Rattle.isis_base.specs.Identifiers.{IsId}
use Rattle.spf_tree.specs.Nodes.{node_number}
use Rattle.router_routes.specs.Kept.{AreAmong}
use Rattle.router_routes.specs.Moved.{AreNodes, is_among}
use Rattle.router_routes.proofs.kept.add_nodes.Given as goal

-- the nodes of the numbers so far are there; the others are left
abbrev pub invariant-loop-left : goal.invariant-loop-left
invariant-loop-left l = record {
  ids : AreNodes l.nodes.items;
  kept : AreAmong l.fn.nodes.items l.nodes.items;
  named : (m : NodeId) → IsId (record { node = m; number = 0 }) → Contains l.fn.numbers (node_number m) → Contains l.left (node_number m) ⊎ (is_among l.nodes.items (node_number m) ≡ true);
}

abbrev pub decreases-loop-left : goal.decreases-loop-left
decreases-loop-left l = length l.left
