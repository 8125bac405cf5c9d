use Rattle.std.proofs.Common.{◌≡◌, ◌++◌, length}
use Rattle.router_core.specs.Asides.{with_node}
use Rattle.router_core.proofs.snp_told.with_node.Given as goal

-- those so far, and those that are left with one more
abbrev pub invariant-loop-left : goal.invariant-loop-left
invariant-loop-left l = l.list.items ++ with_node l.left l.fn.node ≡ with_node l.fn.nodes l.fn.node

abbrev pub decreases-loop-left : goal.decreases-loop-left
decreases-loop-left l = length l.left
