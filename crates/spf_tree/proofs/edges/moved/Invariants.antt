use Rattle.spf_tree.specs.Places.{AreEdges}
use Rattle.spf_tree.proofs.edges.moved.Given as goal

abbrev pub invariant-loop-row : goal.invariant-loop-row
invariant-loop-row l = AreEdges l.nodes l.rows l.edges.items l.row
