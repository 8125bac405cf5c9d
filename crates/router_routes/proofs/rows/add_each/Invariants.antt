use Rattle.std.proofs.Common.{◌≡◌, drop}
use Rattle.model_router.specs.Sorted.{RisesFrom}
use Rattle.router_routes.specs.Ways.{add_each, rows_of}
use Rattle.router_routes.proofs.rows.add_each.Given as goal

-- the rows so far, with what is left added
abbrev pub invariant-loop-way : goal.invariant-loop-way
invariant-loop-way l =
    (add_each (rows_of l.rows.items) (drop l.way-index l.come) ≡ add_each (rows_of l.fn.rows.items) l.come)
    × RisesFrom 0 (rows_of l.rows.items)
