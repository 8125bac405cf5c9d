use Rattle.std.proofs.Common.{◌≡◌, ◌++◌, drop}
use Rattle.std.specs.List.{flat_map}
use Rattle.route_text.specs.RouteLine.{route_line}
use Rattle.state_text.proofs.route_lines.add_routes.Given as goal

-- what is written, and what is left
abbrev pub invariant-loop-route : goal.invariant-loop-route
invariant-loop-route l =
    l.page ++ flat_map route_line (drop l.route-index l.routes)
    ≡ l.fn.page ++ flat_map route_line l.routes
