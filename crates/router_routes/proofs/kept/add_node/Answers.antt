use Rattle.std.proofs.Common.{◌∙◌, ap, sym}
use Rattle.isis_base.specs.declared.identifiers.NodeId.{NodeId}
use Rattle.spf_tree.specs.Nodes.{node_number}
use Rattle.router_routes.specs.Moved.{is_among}
use Rattle.router_routes.proofs.SameLemmas.{among-push, id-node, named-node, node-more, pushed-among}
use Rattle.router_routes.proofs.kept.add_node.Goals as goal

pub returns-in-Ok-clause-ids : goal.returns-in-Ok-clause-ids
returns-in-Ok-clause-ids c = node-more c.args.nodes.now.items c.push.new.self.items c.from_number-id.result.node c.in-Ok.ensures.items c.requires (id-node c.from_number-id.result c.lsp_id_law.ensures)

pub returns-in-Ok-clause-kept : goal.returns-in-Ok-clause-kept
returns-in-Ok-clause-kept c = among-push c.args.nodes.now.items c.push.new.self.items c.from_number-id.result.node c.in-Ok.ensures.items

pub returns-in-Ok-clause-named : goal.returns-in-Ok-clause-named
returns-in-Ok-clause-named c = λ m id same.
    ap (λ (n : NodeId). is_among c.push.new.self.items (node_number n)) (sym (named-node c.from_number-id.result c.args.number m c.lsp_id_law.ensures c.from_number-id.ensures id same))
    ∙ pushed-among c.args.nodes.now.items c.push.new.self.items c.from_number-id.result.node c.in-Ok.ensures.items
