use Rattle.std.proofs.Common.{◌≡◌, ◌++◌, drop}
use Rattle.route_leaking.specs.Leaks.{leaks}
use Rattle.route_leaking.proofs.leaks.leaks.Given as goal

abbrev pub invariant-loop-route : goal.invariant-loop-route
invariant-loop-route l = l.items.items ++ leaks l.rank l.down (drop l.route-index l.routes) ≡ leaks l.rank l.down l.routes
