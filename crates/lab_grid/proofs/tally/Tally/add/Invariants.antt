use Rattle.std.proofs.Common.{◌≡◌, List, ◌++◌, take}
use Rattle.route_table.specs.declared.route.Route.{Route}
use Rattle.lab_grid.specs.Tallies.{tally_of}
use Rattle.lab_grid.proofs.tally.Tally.add.Given as goal

-- those so far are counted
abbrev pub invariant-loop-route : goal.invariant-loop-route
invariant-loop-route l = (before : List Route) → l.fn.self ≡ tally_of before → l.self ≡ tally_of (before ++ take l.route-index l.routes)
