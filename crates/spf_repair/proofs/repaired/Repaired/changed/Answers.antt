use Rattle.std.proofs.Common.{◌∙◌, ◌+◌, ◌≤◌, List, length, sym, ap, subst}
use Rattle.spf_tree.specs.declared.row.Row.{Row}
use Rattle.spf_tree.specs.Graphs.{times}
use Rattle.spf_tree.specs.Labels.{at}
use Rattle.spf_tree.specs.Distances.{cost_at}
use Rattle.spf_repair.specs.Changes.{RepairedOf}
use Rattle.spf_repair.specs.Change.{AreChanged}
use Rattle.spf_repair.proofs.ChangeLemmas.{bound_by, falls_parallel}
use Rattle.spf_repair.proofs.repaired.Repaired.changed.Goals as goal

pub exchanged-requires-clause-there : goal.exchanged-requires-clause-there
exchanged-requires-clause-there g c = λ x. subst (λ (r : RepairedOf). times c.args.removed.now x ≤ times r.graph.rows x) (sym c.self.view_is) (c.requires.there x)

pub repair-requires-clause-differ : goal.repair-requires-clause-differ
repair-requires-clause-differ g c = subst (λ (rs : List Row). AreChanged rs c.in-Ok.graph.rows c.args.removed.now c.args.added.now) (sym c.rows_in_order-before.ensures.same) c.in-Ok.ensures.differ

pub returns-clause-rows : goal.returns-clause-rows
returns-clause-rows g c = λ x. c.in-Ok.ensures.rows x ∙ ap (λ (r : RepairedOf). times r.graph.rows x + times c.args.added.now x) c.self.view_is

pub returns-clause-bound : goal.returns-clause-bound
returns-clause-bound g c =
    let before = c.rows_in_order-before.result.now in
    let there : AreChanged before c.in-Ok.graph.rows c.args.removed.now c.args.added.now = subst (λ (rs : List Row). AreChanged rs c.in-Ok.graph.rows c.args.removed.now c.args.added.now) (sym c.rows_in_order-before.ensures.same) c.in-Ok.ensures.differ in
    λ falls.
    bound_by (at c.labels-old.result.now) (at c.in-Ok-repair.labels) (cost_at c.args.self.now.distances) (cost_at c.of.result) (length c.args.removed.now + length c.args.added.now) c.args.steps.now c.repair.new.steps
    (λ n. c.labels-old.ensures n ∙ ap (λ (r : RepairedOf). cost_at r.distances n) c.self.view_is)
    (λ n. sym (c.of.ensures.same n))
    (c.in-Ok-repair.ensures.bound (falls_parallel before c.in-Ok.graph.rows c.args.removed.now c.args.added.now there falls))
