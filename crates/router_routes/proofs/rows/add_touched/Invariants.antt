use Rattle.std.proofs.Common.{◌≡◌, ◌++◌, drop}
use Rattle.router_routes.specs.Ways.{all_in, prefixes_via, rows_of}
use Rattle.router_routes.proofs.rows.add_touched.Given as goal

-- the prefixes so far, and those of the rows that are left
abbrev pub invariant-loop-row : goal.invariant-loop-row
invariant-loop-row l =
    l.prefixes.items ++ prefixes_via l.numbers (all_in (rows_of (drop l.row-index l.table)))
    ≡ l.fn.prefixes.items ++ prefixes_via l.numbers (all_in (rows_of l.table))
