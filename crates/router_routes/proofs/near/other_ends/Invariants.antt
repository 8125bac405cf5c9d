use Rattle.std.proofs.Common.{◌≡◌, ◌++◌, drop}
use Rattle.router_routes.specs.Near.{other_ends}
use Rattle.router_routes.proofs.near.other_ends.Given as goal

-- what is there so far, and what is left
abbrev pub invariant-loop-row : goal.invariant-loop-row
invariant-loop-row l =
    l.ends.items ++ other_ends l.node (drop l.row-index l.rows) ≡ other_ends l.node l.rows
