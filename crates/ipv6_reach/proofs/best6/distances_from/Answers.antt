use Rattle.std.proofs.Common.{List, subst}
use Rattle.spf_tree.specs.declared.row.Row.{Row}
use Rattle.spf_tree.specs.Nodes.{node_number}
use Rattle.spf_tree.specs.Search.{IsBounded}
use Rattle.spf_tree.proofs.DistanceLemmas.{costs_small}
use Rattle.ipv6_reach.proofs.best6.distances_from.Goals as goal

pub returns-in-Ok-clause-small : goal.returns-in-Ok-clause-small
returns-in-Ok-clause-small c =
    costs_small c.args.graph.now.rows (node_number c.args.root) c.in-Ok.distances (subst (λ (rows : List Row). IsBounded rows) c.rows_in_order-rows.ensures.same c.rows_in_order-rows.ensures.bounded) c.in-Ok.ensures
