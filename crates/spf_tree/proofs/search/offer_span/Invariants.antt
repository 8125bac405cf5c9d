use Rattle.spf_tree.specs.Search.{HaveOffered}
use Rattle.spf_tree.specs.Places.{AreToPlaces, node_at, offers_at}
use Rattle.spf_tree.proofs.search.offer_span.Given as goal

abbrev pub invariant-loop-row : goal.invariant-loop-row
invariant-loop-row l = record {
  places : AreToPlaces l.indexed.nodes l.queue;
  offered : HaveOffered l.indexed.rows (node_at l.indexed.nodes l.root) l.labels (node_at l.indexed.nodes l.place) l.cost (offers_at l.indexed.nodes l.fn.queue) (offers_at l.indexed.nodes l.queue) l.row;
}
