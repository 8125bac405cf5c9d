use Rattle.std.proofs.Common.{◌∙◌, ap}
use Rattle.spf_tree.specs.Graphs.{GraphOf}
use Rattle.router_routes.proofs.DifferenceLemmas.{usable-times}
use Rattle.router_routes.proofs.following.followed.Goals as goal

pub returns-in-Ok-clause-graph : goal.returns-in-Ok-clause-graph
returns-in-Ok-clause-graph c =
    usable-times _ _ c.args.old.now.root c.root.result c.in_ok-graph.graph c.in-Ok.new.graph c.in_ok-graph.ensures c.in-Ok.ensures.same
    (c.root.ensures ∙ ap (λ (g : GraphOf). g.root) c.graph.ensures ∙ c.requires.root) (c.in-Ok.ensures.moved.graph_root ∙ c.requires.root)
