use Rattle.std.proofs.Common.{◌∙◌, ◌++◌, List, ap, sym}
use Rattle.lsp_view.specs.Views.{rows_in}
use Rattle.spf_tree.specs.declared.row.Row.{Row}
use Rattle.spf_tree.specs.Graphs.{times}
use Rattle.router_routes.specs.Moved.{is_beside}
use Rattle.router_routes.proofs.ReadLemmas.{level-rows, starting}
use Rattle.router_routes.proofs.ToldLemmas.{rows-told}
use Rattle.router_routes.proofs.ViewLemmas.{read-alone}
use Rattle.router_routes.proofs.level_graph.rows_told.Goals as goal

pub returns-in-None : goal.returns-in-None
returns-in-None c = λ x. ap (λ (l : List Row). times l x) (c.in_ok-old.ensures ∙ sym (rows-told c.args.level.now.store.now.entries c.len-entries.ensures.rises) ∙ ap rows_in (read-alone c.args.level.now c.in-None.is))

pub returns : goal.returns
returns c =
    let nodes = c.in-Some.moved.nodes.now in
    level-rows c.args.level.now c.in-Some.moved c.in-Some.is c.requires c.as_slice.result.now c.as_slice-2.result.now c.add_rows.new.rows.items c.add_rows-2.new.rows.items (c.as_slice.ensures.value ∙ c.in_ok-old.ensures) (c.as_slice-2.ensures.value ∙ c.in_ok-here.ensures)
    (c.in_ok-add_rows.ensures ∙ ap (λ (l : List Row). l ++ starting (is_beside nodes) c.as_slice.result.now) c.new-rows.ensures.items) c.in_ok-add_rows-2.ensures
