use Rattle.std.proofs.Common.{◌∙◌, ℕ, slice_index_or, sym, subst, arith}
use Rattle.spf_tree.specs.Places.{AreEdges, IsPlaceOf, node_at}
use Rattle.spf_tree.proofs.SearchLemmas.{no_row}
use Rattle.spf_tree.proofs.PlaceLemmas.{edges_push, no_edge}
use Rattle.spf_tree.proofs.edges.moved.Goals as goal

pub index-requires : goal.index-requires
index-requires c =
    let within = (c.requires.known.each c.loop-row.row no_row no_edge c.loop-row-test.true).within in
    let long = c.in-Ok.ensures.long in
    let len = c.in-Ok.places.ok.0 in
    omega (arith, within, long, len)

pub loop-row-preserved : goal.loop-row-preserved
loop-row-preserved c =
    let is = c.requires.known.each c.loop-row.row no_row no_edge c.loop-row-test.true in
    let old = slice_index_or c.args.known.now c.loop-row.row no_edge in
    let place = c.index.result.now in
    let there = subst (IsPlaceOf c.args.nodes.now (node_at c.args.old_nodes.now old.place)) (sym c.index.ensures) (c.in-Ok.ensures.each old.place place is.within) in
    edges_push c.args.nodes.now c.args.rows.now c.loop-row.edges.items c.push.new.self.items (record { place = place; metric = old.metric }) c.loop-row.row no_row c.loop-row-test.true c.in-Ok-push.ensures.items c.loop-row.invariant
    (record { within = there.within; node = there.node_is ∙ is.node; metric = is.metric })

pub returns : goal.returns
returns c =
    let past = c.loop-row-test.false in
    let auto = c.loop-row.auto.row-end in
    subst (λ (n : ℕ). AreEdges c.args.nodes.now c.args.rows.now c.loop-row.edges.items n) (omega arith) c.loop-row.invariant
