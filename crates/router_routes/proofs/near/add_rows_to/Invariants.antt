use Rattle.std.proofs.Common.{◌≡◌, ◌++◌, drop}
use Rattle.std.specs.List.{flat_map}
use Rattle.isis_base.specs.declared.identifiers.NodeId.{NodeId}
use Rattle.spf_tree.specs.Nodes.{node_number}
use Rattle.lsp_view.specs.Views.{rows_in}
use Rattle.router_routes.specs.Moved.{told_of}
use Rattle.router_routes.specs.Near.{rows_from, rows_to}
use Rattle.router_routes.proofs.near.add_rows_to.Given as goal

-- what is there so far, and what is left
abbrev pub invariant-loop-end : goal.invariant-loop-end
invariant-loop-end l =
    let lead = λ (other : NodeId). rows_to l.node (rows_from (node_number other) (rows_in (told_of l.before))) in
    l.rows.items ++ flat_map lead (drop l.end-index l.ends) ≡ l.fn.rows.items ++ flat_map lead l.ends
