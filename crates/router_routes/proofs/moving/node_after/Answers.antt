use Rattle.std.proofs.Common.{◌≡◌, ◌+◌, ◌≤◌, subst}
use Rattle.std.proofs.lemmas.Result.{IfOk-weaker}
use Rattle.lsp_view.specs.Views.{rows_in, overloaded_in}
use Rattle.spf_tree.specs.declared.row.Row.{Row}
use Rattle.spf_tree.specs.Graphs.{AreUsable, GraphOf, times}
use Rattle.spf_repair.specs.Changes.{RepairedOf}
use Rattle.router_routes.specs.Told.{told_in}
use Rattle.router_routes.specs.Moved.{or_old, told_of, told_with}
use Rattle.router_routes.proofs.MovingLemmas.{node-costs}
use Rattle.lsp_view.specs.Lsps.{entries_in}
use Rattle.router_routes.proofs.moving.node_after.Goals as goal

pub changed_by-requires-clause-there : goal.changed_by-requires-clause-there
changed_by-requires-clause-there c = λ x. subst (λ (r : RepairedOf). times c.in-Ok.removed.items x ≤ times r.graph.rows x) c.newest.ensures (c.in-Ok.ensures.there x)

pub returns-in-Ok-clause-costs : goal.returns-in-Ok-clause-costs
returns-in-Ok-clause-costs c =
    let later = told_with c.args.node (told_of c.args.before.now) (told_in (entries_in c.args.aside)) in
    IfOk-weaker c.changed_by.result _ _ (λ new change.
    node-costs (told_of c.args.before.now) later c.args.old.now.root (or_old c.args.so_far c.args.old.now) (or_old new c.args.old.now) c.in-Ok.removed.items c.in-Ok.added.items c.requires.costs change
    (subst (λ (r : RepairedOf). (next : GraphOf) → ((x : Row) → times next.rows x + times c.in-Ok.removed.items x ≡ times r.graph.rows x + times c.in-Ok.added.items x) → next.root ≡ r.root → AreUsable (rows_in later) (overloaded_in later) r.root next) c.newest.ensures c.in-Ok.ensures.then)) c.changed_by.ensures.changed
