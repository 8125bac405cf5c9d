use Rattle.std.proofs.Common.{◌∙◌, ◌++◌, List, ap, sym}
use Rattle.isis_base.specs.declared.identifiers.NodeId.{NodeId}
use Rattle.lsp_view.specs.Views.{overloaded_in}
use Rattle.spf_tree.specs.Graphs.{is_overloaded}
use Rattle.router_routes.specs.Moved.{is_beside}
use Rattle.router_routes.proofs.ReadLemmas.{level-over, nodes-by}
use Rattle.router_routes.proofs.ToldLemmas.{overloaded-told}
use Rattle.router_routes.proofs.ViewLemmas.{read-alone}
use Rattle.router_routes.proofs.level_graph.overloaded_told.Goals as goal

pub returns-in-None : goal.returns-in-None
returns-in-None c = λ n. ap (λ (l : List NodeId). is_overloaded l n) (c.in_ok-old.ensures ∙ sym (overloaded-told c.args.level.now.store.now.entries c.len-entries.ensures.rises) ∙ ap overloaded_in (read-alone c.args.level.now c.in-None.is))

pub returns : goal.returns
returns c =
    let nodes = c.in-Some.moved.nodes.now in
    level-over c.args.level.now c.in-Some.moved c.in-Some.is c.requires c.as_slice.result.now c.as_slice-2.result.now c.add_nodes.new.list.items c.add_nodes-2.new.list.items (c.as_slice.ensures.value ∙ c.in_ok-old.ensures) (c.as_slice-2.ensures.value ∙ c.in_ok-here.ensures)
    (c.in_ok-add_nodes.ensures ∙ ap (λ (l : List NodeId). l ++ nodes-by (is_beside nodes) c.as_slice.result.now) c.new-nodes.ensures.items) c.in_ok-add_nodes-2.ensures
