use Rattle.std.proofs.Common.{◌≡◌, ◌≤◌, take, vec_capacity}
use Rattle.route_table.proofs.table.Routes.copy.Given as goal

abbrev pub invariant-loop-route : goal.invariant-loop-route
invariant-loop-route l = record {
  items : l.routes.items ≡ take l.route-index l.self;
  room : l.many ≤ vec_capacity l.routes;
}
