use Rattle.std.proofs.Common.{◌≡◌, ◌++◌, not, filter, length}
use Rattle.route_table.specs.Patches.{is_moved}
use Rattle.router_routes.proofs.touched.add_others.Given as goal

-- those so far, and those of what is left
abbrev pub invariant-loop-left : goal.invariant-loop-left
invariant-loop-left l =
    l.numbers.items ++ filter (λ n. not (is_moved l.moved n)) l.left ≡ l.fn.numbers.items ++ filter (λ n. not (is_moved l.moved n)) l.more

abbrev pub decreases-loop-left : goal.decreases-loop-left
decreases-loop-left l = length l.left
