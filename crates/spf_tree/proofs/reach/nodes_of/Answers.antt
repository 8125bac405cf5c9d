use Rattle.std.proofs.Common.{arith}
use Rattle.spf_tree.proofs.ReachLemmas.{found_within}
use Rattle.spf_tree.proofs.reach.nodes_of.Goals as goal

pub offset_bounds-nodes-places : goal.offset_bounds-nodes-places
offset_bounds-nodes-places c = let within = found_within c.args.nodes.now c.args.places.now c.loop-k.k 0 c.requires c.loop-k-test.true in search (arith, within)

pub bounds-nodes-places : goal.bounds-nodes-places
bounds-nodes-places c = found_within c.args.nodes.now c.args.places.now c.loop-k.k 0 c.requires c.loop-k-test.true
