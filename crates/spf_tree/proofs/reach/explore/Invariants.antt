use Rattle.std.proofs.Common.{◌≡◌, ◌+◌, ◌-◌, length}
use Rattle.spf_tree.specs.Labels.{names}
use Rattle.spf_tree.specs.Exploring.{IsExploring, unmarked}
use Rattle.spf_tree.specs.Places.{ArePlaces, node_at, nodes_at}
use Rattle.spf_tree.proofs.reach.explore.Given as goal

abbrev pub invariant-loop-many : goal.invariant-loop-many
invariant-loop-many l = record {
  named : names l.marks ≡ names l.labels;
  places : ArePlaces l.indexed.nodes l.found.items;
  exploring : IsExploring l.indexed.rows (node_at l.indexed.nodes l.start) l.labels l.all l.from l.marks (nodes_at l.indexed.nodes l.found.items) l.many;
}

abbrev pub decreases-loop-many : goal.decreases-loop-many
decreases-loop-many l = unmarked l.marks + (length l.found.items - l.many)
