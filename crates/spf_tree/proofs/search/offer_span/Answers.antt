use Rattle.std.proofs.Common.{◌<◌, ℕ, List, length, subst, sym, arith}
use Rattle.spf_tree.specs.Places.{AreToPlaces, node_at, offers_at}
use Rattle.spf_tree.proofs.SearchLemmas.{one_more, no_row}
use Rattle.spf_tree.proofs.PlaceLemmas.{span_starts, edge_offered}
use Rattle.spf_tree.proofs.search.offer_span.Goals as goal

pub offer-requires-clause-end : goal.offer-requires-clause-end
offer-requires-clause-end c = subst (λ (ns : List ℕ). c.edge.result.place < length ns) (sym c.requires.names) (c.edge.ensures no_row).within

pub loop-row-preserved : goal.loop-row-preserved
loop-row-preserved c =
    let nodes = c.args.indexed.now.nodes in
    let rows = c.args.indexed.now.rows in
    let high = c.loop-row-test.true in
    let within = c.requires.span.within in
    record {
      places = subst (λ (ns : List ℕ). AreToPlaces ns c.offer.new.queue) c.requires.names c.in-Ok.ensures.places;
      offered = one_more rows (node_at nodes c.args.root) c.args.labels.now (node_at nodes c.args.place) c.args.cost c.loop-row.row no_row (offers_at nodes c.args.queue.now) (offers_at nodes c.loop-row.queue) (offers_at nodes c.offer.new.queue)
          (omega (arith, high, within)) (span_starts rows (node_at nodes c.args.place) c.args.span c.loop-row.row no_row c.requires.span c.loop-row.auto.row c.loop-row-test.true) c.loop-row.invariant.offered
          (edge_offered nodes rows c.args.labels.now c.args.root c.args.cost c.loop-row.row no_row c.edge.result c.loop-row.queue c.offer.new.queue c.requires.names (c.edge.ensures no_row) c.in-Ok.ensures.offered);
    }
