use Rattle.std.proofs.Common.{◌≡◌, ◌++◌, true, take}
use Rattle.std.specs.List.{All}
use Rattle.spf_tree.specs.Nodes.{is_system}
use Rattle.route_table.proofs.hops.add_nodes.Given as goal

abbrev pub invariant-loop-place : goal.invariant-loop-place
invariant-loop-place l = record {
  added : l.nodes.items ≡ l.fn.nodes.items ++ take l.place l.hops;
  systems : All (λ node. is_system node ≡ true) l.nodes.items;
}
