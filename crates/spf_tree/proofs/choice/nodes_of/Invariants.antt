use Rattle.std.proofs.Common.{◌≡◌, map, take}
use Rattle.spf_tree.specs.Pairs.{node_pair}
use Rattle.spf_tree.proofs.choice.nodes_of.Given as goal

abbrev pub invariant-loop-node : goal.invariant-loop-node
invariant-loop-node l = l.pairs.items ≡ map node_pair (take l.node-index l.nodes)
