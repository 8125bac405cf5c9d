use Rattle.std.proofs.Common.{◌∙◌, List, ap, subst}
use Rattle.isis_base.specs.declared.identifiers.LspId.{LspId}
use Rattle.isis_base.specs.declared.identifiers.NodeId.{NodeId}
use Rattle.lsp_store.specs.declared.entry.Entry.{Entry}
use Rattle.spf_tree.specs.declared.row.Row.{Row}
use Rattle.spf_tree.specs.Graphs.{GraphOf, times}
use Rattle.router_routes.specs.Moved.{told_of, told_with}
use Rattle.router_routes.specs.Near.{IsNear}
use Rattle.router_routes.specs.Told.{told_in}
use Rattle.router_routes.proofs.MovedLemmas.{with-same}
use Rattle.router_routes.proofs.NearGraphLemmas.{near-touched}
use Rattle.lsp_view.specs.Lsps.{entries_in}
use Rattle.router_routes.proofs.moving.rows_at.Goals as goal

pub returns-in-Ok : goal.returns-in-Ok
returns-in-Ok c = λ x.
    let now = c.args.now.now in
    let told = told_of c.args.before.now in
    let at-root = c.root.ensures ∙ ap (λ (g : GraphOf). g.root) c.graph-2.ensures ∙ c.requires.costs.graph.from in
    let same = with-same c.args.node told (told_in (entries_in c.lsps_at-lsps.result)) c.requires.told.rises c.requires.told.ids c.lsps_at-lsps.ensures in
    let near = subst (λ (l : List (LspId × Entry)). IsNear l now.root c.args.node c.in_ok-near.near) same (subst (λ (r : NodeId). IsNear (told_with c.args.node told (told_in (entries_in c.lsps_at-lsps.result))) r c.args.node c.in_ok-near.near) at-root c.in_ok-near.ensures) in
    ap (λ (l : List Row). times l x) (c.in-Ok.ensures.items ∙ c.rows_in_order.ensures.same)
    ∙ near-touched c.args.node told now.root now.graph c.in_ok-near.near c.requires.costs.graph near x
