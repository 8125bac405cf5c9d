use Rattle.std.proofs.Common.{take}
use Rattle.spf_tree.specs.Nodes.{node_number, system_node}
use Rattle.alternates.specs.Sides.{ArePrepared}
use Rattle.capture_text.specs.SoFar.{AreAdded}
use Rattle.capture_text.proofs.backups.add_hops.Given as goal

abbrev pub invariant-loop-place : goal.invariant-loop-place
invariant-loop-place l = record {
  prepared : ArePrepared l.graph.rows (node_number l.graph.root) l.sides;
  added : AreAdded l.graph (system_node l.target) (take l.place l.hops) l.fn.list.items l.list.items;
}
