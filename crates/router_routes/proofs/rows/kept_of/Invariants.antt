use Rattle.std.proofs.Common.{◌≡◌, ◌++◌, filter, not, drop}
use Rattle.router_routes.specs.Ways.{is_by}
use Rattle.router_routes.proofs.rows.kept_of.Given as goal

-- those so far, and those of what is left
abbrev pub invariant-loop-way : goal.invariant-loop-way
invariant-loop-way l =
    l.kept.items ++ filter (λ c. not (is_by l.moved c)) (drop l.way-index l.ways)
    ≡ filter (λ c. not (is_by l.moved c)) l.ways
