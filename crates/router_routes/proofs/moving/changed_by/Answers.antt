use Rattle.std.proofs.Common.{◌≤◌, List, Option, sym, subst}
use Rattle.spf_tree.specs.declared.row.Row.{Row}
use Rattle.spf_tree.specs.Graphs.{times}
use Rattle.spf_repair.specs.Changes.{RepairedOf}
use Rattle.router_routes.specs.Differences.{ArePartedRows}
use Rattle.router_routes.specs.Moved.{AreRowsMoved, or_old}
use Rattle.router_routes.proofs.moving.changed_by.Goals as goal

pub changed_again-requires-clause-there : goal.changed_again-requires-clause-there
changed_again-requires-clause-there c = λ x.
    subst (λ (l : List Row). times l x ≤ times c.in-Some.so_far.graph.rows x) (sym c.as_slice-gone.ensures.value)
    (subst (λ (o : Option RepairedOf). times c.args.removed.items x ≤ times (or_old o c.args.old.now).graph.rows x) c.in-Some.is (c.requires.there x))

pub changed_again-requires-clause-rows : goal.changed_again-requires-clause-rows
changed_again-requires-clause-rows c = subst (AreRowsMoved c.args.old.now) c.in-Some.is c.requires.rows

pub changed_first-requires-clause-there : goal.changed_first-requires-clause-there
changed_first-requires-clause-there c = λ x.
    subst (λ (l : List Row). times l x ≤ times c.args.old.now.graph.rows x) (sym c.as_slice-gone.ensures.value)
    (subst (λ (o : Option RepairedOf). times c.args.removed.items x ≤ times (or_old o c.args.old.now).graph.rows x) c.in-None.is (c.requires.there x))

pub changed_first-requires-clause-apart : goal.changed_first-requires-clause-apart
changed_first-requires-clause-apart c =
    subst (λ (l : List Row). ArePartedRows l c.as_slice-come.result.now) (sym c.as_slice-gone.ensures.value)
    (subst (λ (l : List Row). ArePartedRows c.args.removed.items l) (sym c.as_slice-come.ensures.value) c.requires.apart)
