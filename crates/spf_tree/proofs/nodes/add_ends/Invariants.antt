use Rattle.std.proofs.Common.{◌≡◌, ◌++◌, map, take}
use Rattle.spf_tree.specs.Walks.{end}
use Rattle.spf_tree.proofs.nodes.add_ends.Given as goal

abbrev pub invariant-loop-row : goal.invariant-loop-row
invariant-loop-row l = l.nodes.items ≡ l.fn.nodes.items ++ map end (take l.row-index l.rows)
