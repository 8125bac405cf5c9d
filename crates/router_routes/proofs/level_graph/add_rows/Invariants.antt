use Rattle.std.proofs.Common.{◌≡◌, ◌++◌, drop, filter}
use Rattle.spf_tree.specs.declared.row.Row.{Row}
use Rattle.spf_tree.specs.Walks.{start}
use Rattle.router_routes.specs.Moved.{is_one}
use Rattle.router_routes.proofs.level_graph.add_rows.Given as goal

-- what is there so far, and what is left
abbrev pub invariant-loop-row : goal.invariant-loop-row
invariant-loop-row l =
    let those = λ (r : Row). is_one l.there l.nodes (start r) in
    l.rows.items ++ filter those (drop l.row-index l.more) ≡ l.fn.rows.items ++ filter those l.more
