use Rattle.spf_tree.specs.Places.{AreEdges}
use Rattle.spf_tree.proofs.edges.edges_of.Given as goal

abbrev pub invariant-loop-place : goal.invariant-loop-place
invariant-loop-place l = AreEdges l.nodes l.rows l.edges.items l.place
