use Rattle.std.proofs.lemmas.Result.{IfOk-weaker}
use Rattle.router_routes.proofs.ComingLemmas.{hops-by}
use Rattle.router_routes.proofs.coming.hops_from.Goals as goal

pub returns : goal.returns
returns c = IfOk-weaker c.all_next_hops.result _ _ (λ pairs are. hops-by c.args.costs.now c.graph-graph.result.now c.root.result pairs c.graph-graph.ensures c.root.ensures are) c.all_next_hops.ensures
