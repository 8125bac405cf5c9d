use Rattle.std.proofs.Common.{ℕ, map, ap, ◌∙◌}
use Rattle.model_router.specs.LspNeighbours as nodes
use Rattle.lsp_fragments.specs.Entries.{node_and_metric}
use Rattle.router_wanted.proofs.NodeLemmas.{ups-step}
use Rattle.router_wanted.proofs.system_nodes.lan_nodes.Goals as goal

pub loop-neighbour-preserved : goal.loop-neighbour-preserved
loop-neighbour-preserved c =
    let loop = c.loop-neighbour in
    let item = c.system_item-in-loop-neighbour.ensures in
    let old = map node_and_metric loop.list.items in
    let put = c.in-Ok-put_one.ensures.ok ∙ ap (λ (n : ℕ × ℕ). nodes.put_node old n) item.node in (
      ups-step old _ c.args.up.now loop.neighbour-index _ c.loop-neighbour-test.true put
          ∙ loop.invariant.0,
      (c.in-Ok-put_one.ensures.order, c.in-Ok-put_one.ensures.good),
    )
