use Rattle.std.proofs.Common.{◌≡◌, take}
use Rattle.spf_tree.specs.Places.{nodes_at}
use Rattle.spf_tree.proofs.reach.nodes_of.Given as goal

abbrev pub invariant-loop-k : goal.invariant-loop-k
invariant-loop-k l = l.found.items ≡ nodes_at l.nodes (take l.k l.places)
