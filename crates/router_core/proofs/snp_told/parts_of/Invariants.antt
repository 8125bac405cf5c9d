use Rattle.std.proofs.Common.{◌≡◌, [], length}
use Rattle.router_core.specs.Asides.{with_parts}
use Rattle.router_core.proofs.snp_told.parts_of.Given as goal

-- the parts of the nodes that are left come to those that are there
abbrev pub invariant-loop-left : goal.invariant-loop-left
invariant-loop-left l = with_parts l.fn.store.entries l.parts.entries l.left ≡ with_parts l.fn.store.entries [] l.fn.nodes

abbrev pub decreases-loop-left : goal.decreases-loop-left
decreases-loop-left l = length l.left
