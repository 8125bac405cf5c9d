use Rattle.std.proofs.Common.{take}
use Rattle.spf_tree.specs.Nodes.{node_number}
use Rattle.alternates.specs.Sides.{ArePrepared}
use Rattle.capture_text.specs.SoFar.{AreSoFar}
use Rattle.capture_text.proofs.backups.all_backups.Given as goal

abbrev pub invariant-loop-place : goal.invariant-loop-place
invariant-loop-place l = record {
  prepared : ArePrepared l.graph.rows (node_number l.graph.root) l.sides;
  so_far : AreSoFar l.graph (take l.place l.nodes) l.list.items;
}
