use Rattle.std.proofs.Common.{List, ℕ, map, refl, ap, ◌∙◌}
use Rattle.model_router.specs.LspNeighbours as nodes
use Rattle.lsp_fragments.specs.Entries.{node_and_metric}
use Rattle.router_wanted.specs.Lent.{config_of}
use Rattle.router_wanted.proofs.NodeLemmas.{all-step}
use Rattle.router_wanted.proofs.system_nodes.system_nodes.Goals as goal

pub loop-place-preserved : goal.loop-place-preserved
loop-place-preserved c =
    let loop = c.loop-place in
    let config = config_of c.args.base.now in
    let old = map node_and_metric loop.list.items in
    let put = c.in-Ok.ensures.ok ∙ ap (λ (m : List (ℕ × ℕ)). nodes.put_nodes old m) (c.node_of-item.ensures.node config refl) in (
      all-step config c.args.level loop.place c.args.circuits.now c.index-circuits-place.result old _ c.loop-place-test.true c.index-circuits-place.is put
          ∙ loop.invariant.0,
      (c.in-Ok.ensures.order, c.in-Ok.ensures.good),
    )
