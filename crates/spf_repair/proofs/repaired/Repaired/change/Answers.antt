use Rattle.std.proofs.Common.{◌+◌, ◌∙◌, length, ap}
use Rattle.spf_tree.specs.Graphs.{times}
use Rattle.spf_tree.specs.Distances.{cost_at}
use Rattle.spf_repair.specs.Changes.{RepairedOf}
use Rattle.spf_repair.proofs.ChangeLemmas.{bound_none}
use Rattle.spf_repair.proofs.repaired.Repaired.change.Goals as goal

pub returns-then-added-eq0-clause-bound : goal.returns-then-added-eq0-clause-bound
returns-then-added-eq0-clause-bound g c = λ falls. bound_none (cost_at c.args.self.now.distances) (length c.args.removed.now + length c.args.added.now) c.args.steps.now

pub returns-in-Ok-clause-rows : goal.returns-in-Ok-clause-rows
returns-in-Ok-clause-rows g c = λ x. ap (λ (r : RepairedOf). times r.graph.rows x + times c.args.removed.now x) c.drop.view_is ∙ c.in-Ok.ensures.rows x
