use Rattle.std.proofs.Common.{List, subst}
use Rattle.spf_tree.specs.declared.row.Row.{Row}
use Rattle.spf_tree.specs.Nodes.{node_number}
use Rattle.spf_tree.specs.Search.{IsBounded}
use Rattle.spf_tree.proofs.DistanceLemmas.{costs_small}
use Rattle.spf_repair.proofs.repaired.Repaired.distances.Goals as goal

pub returns-clause-small : goal.returns-clause-small
returns-clause-small c =
    costs_small c.self.inside.graph.rows (node_number c.self.inside.root) c.self.inside.distances
    (subst (λ (rows : List Row). IsBounded rows) c.rows_in_order-rows.ensures.same c.rows_in_order-rows.ensures.bounded) c.self.invariant
