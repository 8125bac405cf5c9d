use Rattle.std.proofs.Common.{◌≡◌, ◌++◌, drop}
use Rattle.router_routes.specs.Ways.{prefixes_via}
use Rattle.router_routes.proofs.rows.add_by.Given as goal

-- the prefixes so far, and those of what is left
abbrev pub invariant-loop-way : goal.invariant-loop-way
invariant-loop-way l =
    l.prefixes.items ++ prefixes_via l.numbers (drop l.way-index l.ways) ≡ l.fn.prefixes.items ++ prefixes_via l.numbers l.ways
