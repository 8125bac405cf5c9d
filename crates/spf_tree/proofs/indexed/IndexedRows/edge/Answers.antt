use Rattle.std.proofs.Common.{◌<◌, length, subst, sym, get_or}
use Rattle.spf_tree.specs.Places.{IndexedOf, IsEdge}
use Rattle.spf_tree.proofs.indexed.IndexedRows.edge.Goals as goal

pub returns : goal.returns
returns c = λ d.
    let within : c.args.place < length c.self.inside.rows.items = subst (λ (i : IndexedOf). c.args.place < length i.rows) (sym c.self.view_is) c.requires in
    let edge = c.index.result.now in
    let each : IsEdge c.self.inside.nodes.items (get_or c.self.inside.rows.items c.args.place d) (get_or c.self.inside.edges.items c.args.place edge) = c.self.invariant.row_edges.each c.args.place d edge within in
    subst (λ (i : IndexedOf). IsEdge i.nodes (get_or i.rows c.args.place d) edge) c.self.view_is
    (subst (λ e. IsEdge c.self.inside.nodes.items (get_or c.self.inside.rows.items c.args.place d) e) (sym c.index.ensures) each)
