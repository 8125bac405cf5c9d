use Rattle.std.proofs.Common.{◌∙◌, ap}
use Rattle.spf_tree.specs.Graphs.{GraphOf, times}
use Rattle.router_routes.proofs.MovingLemmas.{again-changed}
use Rattle.router_routes.proofs.moving.changed_again.Goals as goal

pub returns-in-Ok-changed_to-clause-changed : goal.returns-in-Ok-changed_to-clause-changed
returns-in-Ok-changed_to-clause-changed c =
    again-changed c.args.old.now c.args.so_far c.in-Ok.next c.in-Ok-changed_to.new c.args.removed.now c.args.added.now c.requires.rows.graph_root c.requires.rows.root c.in-Ok.ensures.changed
    (λ x. c.in-Ok-changed_to.ensures.same x ∙ ap (λ (g : GraphOf). times g.rows x) c.graph.ensures) c.in-Ok-changed_to.ensures.moved
