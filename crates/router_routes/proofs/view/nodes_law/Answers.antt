use Rattle.router_routes.proofs.ViewLemmas.{nodes-turn}
use Rattle.router_routes.proofs.view.nodes_law.Goals as goal

pub loop-left-preserved : goal.loop-left-preserved
loop-left-preserved c = λ rest. c.loop-left.invariant (nodes-turn c.loop-left.left.now _ c.in-len1-up.len_at_least c.lsp_id_law.ensures rest)
