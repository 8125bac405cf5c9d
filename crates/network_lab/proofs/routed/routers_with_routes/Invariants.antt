use Rattle.std.proofs.Common.{◌≡◌, ◌++◌, length}
use Rattle.std.specs.Vec.Iter.{into_iter_items}
use Rattle.network_lab.proofs.routed.routers_with_routes.Given as goal

-- those that are there and those that are left are all
abbrev pub invariant-loop-router : goal.invariant-loop-router
invariant-loop-router l = l.list.items ++ into_iter_items l.left ≡ l.fn.routers.items

abbrev pub decreases-loop-router : goal.decreases-loop-router
decreases-loop-router l = length (into_iter_items l.left)
