use Rattle.std.proofs.Common.{◌∙◌, ◌+◌, ◌<◌, ℕ, List, length, subst, sym, arith}
use Rattle.std.proofs.lemmas.List.{length-map}
use Rattle.spf_tree.specs.Places.{ArePlaces, node_at, nodes_at}
use Rattle.spf_tree.proofs.SearchLemmas.{no_row}
use Rattle.spf_tree.proofs.PlaceLemmas.{span_starts}
use Rattle.spf_tree.proofs.ExploreLemmas.{IsMore, touch_more, front_trans}
use Rattle.spf_tree.proofs.ReachLemmas.{edge_touched}
use Rattle.spf_tree.proofs.reach.spread.Goals as goal

pub touch-requires-clause-end : goal.touch-requires-clause-end
touch-requires-clause-end c = subst (λ (ns : List ℕ). c.edge.result.place < length ns) (sym c.requires.names) (c.edge.ensures no_row).within

pub loop-row-preserved : goal.loop-row-preserved
loop-row-preserved c =
    let rows = c.args.indexed.now.rows in
    let nodes = c.args.indexed.now.nodes in
    let root = node_at nodes c.args.root in
    let node = node_at nodes c.args.place in
    let m = c.loop-row.row in
    let high = c.loop-row-test.true in
    let within = c.requires.span.within in
    let more : IsMore rows root c.args.labels.now c.args.all c.args.from node c.loop-row.marks (nodes_at nodes c.loop-row.found.items) c.touch.new.marks (nodes_at nodes c.touch.new.found.items) c.args.many (m + 1) =
    touch_more rows root c.args.labels.now c.args.all c.args.from node c.loop-row.marks (nodes_at nodes c.loop-row.found.items) c.touch.new.marks (nodes_at nodes c.touch.new.found.items) c.args.many m no_row
    (omega (arith, high, within)) (span_starts rows node c.args.span m no_row c.requires.span c.loop-row.auto.row c.loop-row-test.true) c.requires.goes
    (c.loop-row.invariant.names ∙ c.requires.named)
    c.in-Ok.ensures.names c.loop-row.invariant.spreading
    (edge_touched nodes rows c.args.labels.now c.args.root c.args.place m no_row c.edge.result c.loop-row.marks c.loop-row.found.items c.touch.new.marks c.touch.new.found.items c.requires.names (c.edge.ensures no_row) c.in-Ok.ensures.touched)
    in
    let few = more.few in
    let before = c.loop-row.invariant.few in
    record {
      names = c.in-Ok.ensures.names ∙ c.loop-row.invariant.names;
      places = subst (λ (ns : List ℕ). ArePlaces ns c.touch.new.found.items) c.requires.names c.in-Ok.ensures.places;
      spreading = more.spreading;
      front = front_trans (nodes_at nodes c.args.found.now.items) (nodes_at nodes c.loop-row.found.items) (nodes_at nodes c.touch.new.found.items) c.loop-row.invariant.front more.front;
      few = omega (arith, few, before, length-map c.loop-row.found.items (node_at nodes), length-map c.touch.new.found.items (node_at nodes));
    }
