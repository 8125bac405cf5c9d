use Rattle.std.proofs.Common.{◌≡◌, ◌++◌, drop, filter}
use Rattle.isis_base.specs.declared.identifiers.NodeId.{NodeId}
use Rattle.spf_tree.specs.Nodes.{node_number}
use Rattle.router_routes.specs.Moved.{is_one}
use Rattle.router_routes.proofs.level_graph.add_nodes.Given as goal

-- what is there so far, and what is left
abbrev pub invariant-loop-node : goal.invariant-loop-node
invariant-loop-node l =
    let those = λ (n : NodeId). is_one l.there l.nodes (node_number n) in
    l.list.items ++ filter those (drop l.node-index l.more) ≡ l.fn.list.items ++ filter those l.more
