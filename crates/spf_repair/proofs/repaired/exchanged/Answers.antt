use Rattle.std.proofs.Common.{◌≤◌, ◌+◌, ◌∙◌, List, sym, ap, subst}
use Rattle.spf_tree.specs.declared.row.Row.{Row}
use Rattle.spf_tree.specs.Graphs.{times}
use Rattle.spf_repair.specs.Change.{AreChanged}
use Rattle.spf_repair.proofs.ReplaceLemmas.{changed_is}
use Rattle.spf_repair.proofs.ChangeLemmas.{ends_alike}
use Rattle.spf_repair.proofs.repaired.exchanged.Goals as goal

pub replaced-requires-clause-there : goal.replaced-requires-clause-there
replaced-requires-clause-there c = λ x. subst (λ (rs : List Row). times c.args.removed.now x ≤ times rs x) (sym c.rows_in_order-before.ensures.same) (c.requires.there x)

pub with_rows-requires-clause-ends : goal.with_rows-requires-clause-ends
with_rows-requires-clause-ends c =
    let before = c.rows_in_order-before.result.now in
    let differ : AreChanged before c.in-Ok.replaced.rows.items c.args.removed.now c.args.added.now =
    changed_is before c.in-Ok.replaced.rows.items c.args.removed.now c.args.added.now c.in-Ok.ensures.times (λ x. subst (λ (rs : List Row). times c.args.removed.now x ≤ times rs x) (sym c.rows_in_order-before.ensures.same) (c.requires.there x)) in
    ends_alike c.args.graph.now.rows c.in-Ok.replaced.rows.items c.args.removed.now c.args.added.now
    (subst (λ (rs : List Row). AreChanged rs c.in-Ok.replaced.rows.items c.args.removed.now c.args.added.now) c.rows_in_order-before.ensures.same differ)

pub returns-in-Ok-with_rows-clause-rows : goal.returns-in-Ok-with_rows-clause-rows
returns-in-Ok-with_rows-clause-rows c = λ x.
    ap (λ (rs : List Row). times rs x + times c.args.removed.now x) c.in-Ok-with_rows.ensures.0 ∙ c.in-Ok.ensures.times x ∙ ap (λ (rs : List Row). times rs x + times c.args.added.now x) c.rows_in_order-before.ensures.same

pub returns-in-Ok-with_rows-clause-differ : goal.returns-in-Ok-with_rows-clause-differ
returns-in-Ok-with_rows-clause-differ c =
    let before = c.rows_in_order-before.result.now in
    let differ : AreChanged before c.in-Ok.replaced.rows.items c.args.removed.now c.args.added.now =
    changed_is before c.in-Ok.replaced.rows.items c.args.removed.now c.args.added.now c.in-Ok.ensures.times (λ x. subst (λ (rs : List Row). times c.args.removed.now x ≤ times rs x) (sym c.rows_in_order-before.ensures.same) (c.requires.there x)) in
    subst (λ (rs : List Row). AreChanged c.args.graph.now.rows rs c.args.removed.now c.args.added.now) (sym c.in-Ok-with_rows.ensures.0)
    (subst (λ (rs : List Row). AreChanged rs c.in-Ok.replaced.rows.items c.args.removed.now c.args.added.now) c.rows_in_order-before.ensures.same differ)
