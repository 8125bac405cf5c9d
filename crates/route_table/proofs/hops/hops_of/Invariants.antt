use Rattle.std.proofs.Common.{◌≡◌, true}
use Rattle.std.specs.List.{All}
use Rattle.spf_tree.specs.Nodes.{is_system}
use Rattle.route_table.specs.Order.{IsListedHop, AreHopsIn}
use Rattle.route_table.proofs.hops.hops_of.Given as goal

abbrev pub invariant-loop-place : goal.invariant-loop-place
invariant-loop-place l = record {
  systems : All (λ node. is_system node ≡ true) l.nodes.items;
  hops : AreHopsIn (IsListedHop l.one l.two) l.candidates l.first l.place l.nodes.items;
}
