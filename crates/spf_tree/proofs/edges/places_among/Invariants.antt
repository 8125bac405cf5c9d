use Rattle.spf_tree.specs.Places.{AreAmong}
use Rattle.spf_tree.proofs.edges.places_among.Given as goal

abbrev pub invariant-loop-node : goal.invariant-loop-node
invariant-loop-node l = AreAmong l.nodes l.old l.places.items l.node
