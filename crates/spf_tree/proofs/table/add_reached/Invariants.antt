use Rattle.std.proofs.Common.{◌≡◌, ◌++◌, map, take}
use Rattle.spf_tree.specs.Exploring.{beside}
use Rattle.spf_tree.proofs.table.add_reached.Given as goal

abbrev pub invariant-loop-node : goal.invariant-loop-node
invariant-loop-node l = l.table.items ≡ l.fn.table.items ++ map (beside l.hop) (take l.node-index l.reached)
