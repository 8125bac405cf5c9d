use Rattle.std.proofs.Common.{◌∙◌, ℕ, List, ap, subst}
use Rattle.std.proofs.lemmas.Result.{IfOk-weaker}
use Rattle.isis_base.specs.declared.identifiers.NodeId.{NodeId}
use Rattle.spf_tree.specs.declared.row.Row.{Row}
use Rattle.spf_tree.specs.Nodes.{node_number}
use Rattle.spf_tree.specs.Graphs.{is_overloaded}
use Rattle.lsp_view.specs.Views.{rows_in, overloaded_in}
use Rattle.router_routes.specs.Moved.{told_of}
use Rattle.router_routes.specs.Told.{told_in}
use Rattle.router_routes.specs.Near.{AreEnds, near_rows, near_overloaded}
use Rattle.router_routes.proofs.ToldLemmas.{usable-by}
use Rattle.router_routes.proofs.MovedLemmas.{told-ids}
use Rattle.router_routes.proofs.NearGraphLemmas.{near-graph}
use Rattle.lsp_view.specs.Lsps.{entries_in}
use Rattle.router_routes.proofs.near.graph_near.Goals as goal

-- src/near.rt
pub returns : goal.returns
returns c =
    let before = told_of c.args.before.now in
    let aside = (entries_in c.args.aside) in
    let node = c.args.node in
    let mine = c.in_ok-rows.rows.items in
    let ends = c.in_ok-ends.ends.items in
    let are = subst (λ (n : ℕ). AreEnds n mine ends) c.number.ensures (subst (λ (rows : List Row). AreEnds c.number.result rows ends) c.as_slice.ensures.value c.in_ok-ends.ensures) in
    let rows =
    c.as_slice-4.ensures.value ∙ c.in_ok-add_rows_to.ensures
    ∙ ap (λ (n : ℕ). near_rows n mine c.as_slice-2.result.now (rows_in before)) c.number-2.ensures
    ∙ ap (λ (l : List NodeId). near_rows (node_number node) mine l (rows_in before)) c.as_slice-2.ensures.value in
    let over = is_overloaded (overloaded_in (told_in aside)) (node_number node) in
    let nodes = c.as_slice-5.ensures.value ∙ c.in_ok-nodes.ensures ∙ ap (λ (l : List NodeId). near_overloaded node over l (overloaded_in before)) c.as_slice-3.ensures.value in
    IfOk-weaker c.usable.result _ _ (λ graph is.
    near-graph node before (told_in aside) c.requires.told.rises c.requires.told.ids (told-ids aside c.kept.ensures.ids) mine ends c.in_ok-rows.ensures are c.args.root graph
    (usable-by _ _ _ _ c.args.root graph rows nodes is)) c.usable.ensures
