use Rattle.std.proofs.Common.{◌∙◌, ap, sym}
use Rattle.std.proofs.lemmas.Result.{IfOk-weaker}
use Rattle.lsp_view.specs.Views.{rows_in, overloaded_in}
use Rattle.router_routes.specs.Moved.{told_of}
use Rattle.router_routes.proofs.ToldLemmas.{not-run, no-rows, no-overloaded, usable-by}
use Rattle.router_routes.proofs.level_graph.graph_of.Goals as goal

pub returns-then-not-runs : goal.returns-then-not-runs
returns-then-not-runs c =
    let none = not-run c.args.runs (told_of c.args.level.now) c.if-not-runs.true in
    IfOk-weaker c.usable.result _ _ (λ graph is. usable-by _ _ _ _ c.args.root graph (sym (ap rows_in none ∙ no-rows)) (sym (ap overloaded_in none ∙ no-overloaded)) is) c.usable.ensures
