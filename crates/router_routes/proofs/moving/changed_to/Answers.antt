use Rattle.std.proofs.Common.{◌≡◌, ◌≤◌, ◌∙◌, List, refl, ap, sym, subst, arith}
use Rattle.spf_tree.specs.declared.row.Row.{Row}
use Rattle.spf_tree.specs.Graphs.{GraphOf, times}
use Rattle.spf_repair.specs.Changes.{RepairedOf}
use Rattle.router_routes.specs.Differences.{ArePartedRows}
use Rattle.router_routes.proofs.DifferenceLemmas.{differences-of, removed-there, same-times}
use Rattle.router_routes.proofs.MovingLemmas.{listed-changed, unchanged}
use Rattle.router_routes.proofs.moving.changed_to.Goals as goal

pub changed_first-requires-clause-there : goal.changed_first-requires-clause-there
changed_first-requires-clause-there c = λ x.
    subst (λ (l : List Row). times l x ≤ times c.args.old.now.graph.rows x) (sym c.as_slice.ensures.value)
    (removed-there c.args.old.now.graph.rows c.args.graph.now.rows c.in_ok-removed.removed.items c.in_ok-removed.added.items
    (differences-of c.rows_in_order.result.now c.rows_in_order-2.result.now _ _ _ _ _ _ (c.rows_in_order.ensures.same ∙ ap (λ (g : GraphOf). g.rows) c.graph.ensures) c.rows_in_order-2.ensures.same refl refl c.in_ok-removed.ensures) x)

pub changed_first-requires-clause-apart : goal.changed_first-requires-clause-apart
changed_first-requires-clause-apart c =
    subst (λ (l : List Row). ArePartedRows l c.as_slice-2.result.now) (sym c.as_slice.ensures.value)
    (subst (λ (l : List Row). ArePartedRows c.in_ok-removed.removed.items l) (sym c.as_slice-2.ensures.value) c.in_ok-removed.ensures.apart)

pub returns-then-len-eq0-2-clause-same : goal.returns-then-len-eq0-2-clause-same
returns-then-len-eq0-2-clause-same c = λ x. subst (λ (r : RepairedOf). times r.graph.rows x ≡ times c.args.graph.now.rows x) (sym c.in_ok-costs.ensures)
    (same-times c.args.old.now.graph.rows c.args.graph.now.rows c.args.old.now.graph.rows c.in_ok-removed.removed.items c.in_ok-removed.added.items
    (differences-of c.rows_in_order.result.now c.rows_in_order-2.result.now _ _ _ _ _ _ (c.rows_in_order.ensures.same ∙ ap (λ (g : GraphOf). g.rows) c.graph.ensures) c.rows_in_order-2.ensures.same refl refl c.in_ok-removed.ensures)
    (unchanged c.args.old.now c.in_ok-removed.removed.items c.in_ok-removed.added.items (omega (arith, c.len.ensures, c.if-len-eq0.true)) (omega (arith, c.len-then-len-eq0.ensures, c.if-len-eq0-2.true))).rows x)

pub returns-in-Ok-clause-same : goal.returns-in-Ok-clause-same
returns-in-Ok-clause-same c = λ x.
    same-times c.args.old.now.graph.rows c.args.graph.now.rows c.in-Ok.new.graph.rows c.in_ok-removed.removed.items c.in_ok-removed.added.items
    (differences-of c.rows_in_order.result.now c.rows_in_order-2.result.now _ _ _ _ _ _ (c.rows_in_order.ensures.same ∙ ap (λ (g : GraphOf). g.rows) c.graph.ensures) c.rows_in_order-2.ensures.same refl refl c.in_ok-removed.ensures)
    (listed-changed c.args.old.now c.in-Ok.new c.as_slice.result.now c.as_slice-2.result.now c.in_ok-removed.removed.items c.in_ok-removed.added.items c.as_slice.ensures.value c.as_slice-2.ensures.value c.in-Ok.ensures.changed).rows x
