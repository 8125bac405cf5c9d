use Rattle.std.proofs.Common.{◌∙◌, List, sym, ap}
use Rattle.isis_base.specs.declared.identifiers.NodeId.{NodeId}
use Rattle.spf_tree.specs.Nodes.{node_number}
use Rattle.router_routes.specs.Moved.{is_among}
use Rattle.router_core.proofs.SightLemmas.{among-reached, sight-reached}
use Rattle.router_core.proofs.renewing.reach.Goals as goal

-- src/renewing.rt
pub returns-in-Ok-with_node-clause-aside : goal.returns-in-Ok-with_node-clause-aside
returns-in-Ok-with_node-clause-aside c r l sight shown aside =
    sight-reached r l c.args.movers.now.nodes.items c.as_slice-2.result.now c.in-Ok-with_node.nodes.items sight c.args.store.now.entries c.args.movers.now.aside.entries c.put_part.new.part.entries c.args.id shown c.lsp_id_law.ensures
    (ap (λ (ns : List NodeId). is_among ns (node_number c.args.id.node)) (sym c.as_slice.ensures.value) ∙ (sym c.is_among.ensures ∙ c.if-is_among.false)) c.in-Ok.ensures c.as_slice-2.ensures.value c.in-Ok-with_node.ensures aside

-- src/renewing.rt
pub returns-in-Ok-with_node-clause-among : goal.returns-in-Ok-with_node-clause-among
returns-in-Ok-with_node-clause-among c =
    among-reached c.args.movers.now.nodes.items c.as_slice-2.result.now c.in-Ok-with_node.nodes.items c.args.id c.as_slice-2.ensures.value c.in-Ok-with_node.ensures
