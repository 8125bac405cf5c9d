use Rattle.std.proofs.Common.{◌≡◌, ◌≤◌, ◌+◌, length}
use Rattle.spf_tree.specs.Labels.{names}
use Rattle.spf_tree.specs.Exploring.{IsSpreading, IsFront, unmarked}
use Rattle.spf_tree.specs.Places.{ArePlaces, node_at, nodes_at}
use Rattle.spf_tree.proofs.reach.spread.Given as goal

abbrev pub invariant-loop-row : goal.invariant-loop-row
invariant-loop-row l = record {
  names : names l.marks ≡ names l.fn.marks;
  places : ArePlaces l.indexed.nodes l.found.items;
  spreading : IsSpreading l.indexed.rows (node_at l.indexed.nodes l.root) l.labels l.all l.from (node_at l.indexed.nodes l.place) l.marks (nodes_at l.indexed.nodes l.found.items) l.many l.row;
  front : IsFront (nodes_at l.indexed.nodes l.fn.found.items) (nodes_at l.indexed.nodes l.found.items);
  few : unmarked l.marks + length l.found.items ≤ unmarked l.fn.marks + length l.fn.found.items;
}
