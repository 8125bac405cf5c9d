use Rattle.std.proofs.Common.{◌∙◌, List, sym, subst}
use Rattle.spf_tree.specs.declared.row.Row.{Row}
use Rattle.spf_tree.specs.Walks.{start, end}
use Rattle.spf_repair.specs.Erase.{HasParallel}
use Rattle.spf_repair.proofs.change.repair.Goals as goal

pub returns-in-Ok-clause-bound : goal.returns-in-Ok-clause-bound
returns-in-Ok-clause-bound g c =
    λ parallel. c.in-Ok.ensures.bound (λ row gone. subst (λ (rows : List Row). HasParallel rows (start row) (end row) row.metric) (sym c.indexed-rows.ensures) (parallel row gone))

pub returns-in-Ok-repair_among-clause-bound : goal.returns-in-Ok-repair_among-clause-bound
returns-in-Ok-repair_among-clause-bound g c =
    λ parallel. c.in-Ok-repair_among.ensures.bound (λ row gone. subst (λ (rows : List Row). HasParallel rows (start row) (end row) row.metric) (sym (c.in-Ok-with_node.ensures.rows ∙ c.indexed-rows.ensures)) (parallel row gone))
