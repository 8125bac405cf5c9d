use Rattle.std.proofs.Common.{◌≡◌, map, take}
use Rattle.spf_tree.specs.Nodes.{node_number}
use Rattle.router_routes.proofs.touched.node_numbers.Given as goal

-- the numbers of the nodes so far
abbrev pub invariant-loop-node : goal.invariant-loop-node
invariant-loop-node l = l.numbers.items ≡ map node_number (take l.node-index l.nodes)
