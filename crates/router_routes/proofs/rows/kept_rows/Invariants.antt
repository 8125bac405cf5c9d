use Rattle.std.proofs.Common.{◌≡◌, ◌++◌, drop, map}
use Rattle.router_routes.specs.Ways.{kept_pair, rows_of}
use Rattle.router_routes.proofs.rows.kept_rows.Given as goal

-- the rows so far, and those of the numbers that are left
abbrev pub invariant-loop-number : goal.invariant-loop-number
invariant-loop-number l =
    rows_of l.rows.items ++ map (kept_pair l.moved (rows_of l.table)) (drop l.number-index l.numbers)
    ≡ map (kept_pair l.moved (rows_of l.table)) l.numbers
