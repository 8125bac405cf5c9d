use Rattle.std.proofs.Common.{◌≡◌, ◌++◌, drop, filter}
use Rattle.router_routes.specs.Near.{touches}
use Rattle.router_routes.proofs.near.touching.Given as goal

-- what is there so far, and what is left
abbrev pub invariant-loop-row : goal.invariant-loop-row
invariant-loop-row l =
    l.kept.items ++ filter (touches l.node) (drop l.row-index l.rows) ≡ filter (touches l.node) l.rows
