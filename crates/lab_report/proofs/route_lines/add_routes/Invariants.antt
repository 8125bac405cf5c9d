use Rattle.std.proofs.Common.{◌≡◌, ◌++◌, drop}
use Rattle.std.specs.List.{flat_map}
use Rattle.lab_report.specs.RouteLines.{route_line}
use Rattle.lab_report.proofs.route_lines.add_routes.Given as goal

-- what is written, and what is left
abbrev pub invariant-loop-route : goal.invariant-loop-route
invariant-loop-route l =
    l.page ++ flat_map (route_line l.name) (drop l.route-index l.routes)
    ≡ l.fn.page ++ flat_map (route_line l.name) l.routes
