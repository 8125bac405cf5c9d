use Rattle.std.proofs.Common.{◌≡◌, ◌++◌, drop, filter}
use Rattle.isis_base.specs.declared.identifiers.NodeId.{NodeId}
use Rattle.spf_tree.specs.Nodes.{node_number}
use Rattle.spf_tree.specs.Graphs.{is_overloaded}
use Rattle.lsp_view.specs.Views.{overloaded_in}
use Rattle.router_routes.specs.Moved.{told_of}
use Rattle.router_routes.proofs.near.add_all_overloaded.Given as goal

-- what is there so far, and what is left
abbrev pub invariant-loop-end : goal.invariant-loop-end
invariant-loop-end l =
    let is = λ (end : NodeId). is_overloaded (overloaded_in (told_of l.before)) (node_number end) in
    l.nodes.items ++ filter is (drop l.end-index l.ends) ≡ l.fn.nodes.items ++ filter is l.ends
