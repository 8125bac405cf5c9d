use Rattle.std.proofs.lemmas.Result.{IfOk-weaker}
use Rattle.lsp_view.specs.Views.{rows_in, overloaded_in}
use Rattle.router_routes.specs.Moved.{told_of}
use Rattle.router_routes.proofs.ReadLemmas.{usable-alike}
use Rattle.router_routes.proofs.ToldLemmas.{usable-by}
use Rattle.router_routes.proofs.level_graph.run_graph.Goals as goal

pub returns : goal.returns
returns c =
    let told = told_of c.args.level.now in
    IfOk-weaker c.usable.result _ _ (λ graph is.
    usable-alike c.in_ok-rows.rows.items (rows_in told) c.in_ok-nodes.nodes.items (overloaded_in told) c.args.root graph c.in_ok-rows.ensures c.in_ok-nodes.ensures
    (usable-by _ _ _ _ c.args.root graph c.deref.ensures.value c.deref-2.ensures.value is)) c.usable.ensures
