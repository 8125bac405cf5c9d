use Rattle.std.proofs.Common.{◌≡◌, ◌∙◌, List, filter, ap, subst, arith}
use Rattle.std.proofs.lemmas.Result.{IfOk-weaker}
use Rattle.isis_base.specs.declared.identifiers.NodeId.{NodeId}
use Rattle.spf_tree.specs.declared.row.Row.{Row}
use Rattle.spf_tree.specs.Nodes.{node_number}
use Rattle.spf_tree.specs.Graphs.{GraphOf, times}
use Rattle.router_routes.specs.Differences.{AreDifferences}
use Rattle.router_routes.specs.Told.{told_in}
use Rattle.router_routes.specs.Moved.{told_of, told_with}
use Rattle.router_routes.specs.Near.{touches, IsNear}
use Rattle.router_routes.proofs.MovedLemmas.{told-ids}
use Rattle.router_routes.proofs.DifferenceLemmas.{differences-by, removed-there}
use Rattle.router_routes.proofs.NearGraphLemmas.{touched-few, changed-graph}
use Rattle.lsp_view.specs.Lsps.{entries_in}
use Rattle.router_routes.proofs.moving.differences.Goals as goal

-- the differences from the rows of the graph that touch the node
mine : (old lent touched near near-lent removed added : List Row) → lent ≡ old → ((x : Row) → times old x ≡ times touched x) → near-lent ≡ near → AreDifferences lent near-lent removed added → AreDifferences touched near removed added
mine old lent touched near near-lent removed added of-old same of-near apart =
    differences-by touched near lent near-lent removed added (λ x. ap (λ (l : List Row). times l x) of-old ∙ same x) (λ x. ap (λ (l : List Row). times l x) of-near) apart

pub returns-clause-there : goal.returns-clause-there
returns-clause-there c =
    let node = c.args.node in
    let now = c.args.now.now in
    let touched = filter (touches (node_number node)) now.graph.rows in
    IfOk-weaker c.rows_apart.result _ _ (λ both apart. λ x.
    let few = removed-there touched c.in_ok-near.near.rows both.0.items both.1.items (mine c.in_ok-old.old.items c.as_slice.result.now touched c.in_ok-near.near.rows c.rows_in_order.result.now both.0.items both.1.items c.as_slice.ensures.value c.in_ok-old.ensures c.rows_in_order.ensures.same apart) x in
    let most = touched-few (node_number node) now.graph.rows x in
    omega (arith, few, most)) c.rows_apart.ensures

pub returns-clause-apart : goal.returns-clause-apart
returns-clause-apart c = IfOk-weaker c.rows_apart.result _ _ (λ both apart. apart.apart) c.rows_apart.ensures

pub returns-clause-then : goal.returns-clause-then
returns-clause-then c =
    let node = c.args.node in
    let now = c.args.now.now in
    let before = told_of c.args.before.now in
    let aside = told_in (entries_in c.args.aside) in
    let touched = filter (touches (node_number node)) now.graph.rows in
    let at-root = c.root.ensures ∙ ap (λ (g : GraphOf). g.root) c.graph.ensures ∙ c.requires.costs.graph.from in
    let near = subst (λ (r : NodeId). IsNear (told_with node before aside) r node c.in_ok-near.near) at-root c.in_ok-near.ensures in
    IfOk-weaker c.rows_apart.result _ _ (λ both apart. λ next change is-root.
    let from = mine c.in_ok-old.old.items c.as_slice.result.now touched c.in_ok-near.near.rows c.rows_in_order.result.now both.0.items both.1.items c.as_slice.ensures.value c.in_ok-old.ensures c.rows_in_order.ensures.same apart in
    changed-graph node before aside c.requires.told.rises c.requires.told.ids (told-ids (entries_in c.args.aside) c.kept.ensures.ids) now.root now.graph next c.in_ok-near.near both.0.items both.1.items c.requires.costs.graph near from change is-root) c.rows_apart.ensures
