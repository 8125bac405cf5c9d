use Rattle.std.proofs.Common.{◌≡◌, ◌++◌, drop}
use Rattle.router_routes.specs.Near.{rows_to}
use Rattle.router_routes.proofs.near.add_leading.Given as goal

-- what is there so far, and what is left
abbrev pub invariant-loop-row : goal.invariant-loop-row
invariant-loop-row l =
    l.rows.items ++ rows_to l.node (drop l.row-index l.listed) ≡ l.fn.rows.items ++ rows_to l.node l.listed
