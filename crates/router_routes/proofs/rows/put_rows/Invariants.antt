use Rattle.std.proofs.Common.{◌≡◌, ◌+◌, ◌≤◌, length, vec_capacity}
use Rattle.model_router.specs.Sorted.{RisesFrom}
use Rattle.ordered.specs.Keyed.{keyed, paired}
use Rattle.router_routes.specs.Ways.{put_all, row_key, row_ways}
use Rattle.router_routes.proofs.rows.put_rows.Given as goal

-- the rows that are left put in make what all of them make
abbrev pub invariant-loop-row : goal.invariant-loop-row
invariant-loop-row l =
    RisesFrom 0 (keyed row_key l.table.items)
    × (length l.table.items + length l.left.items ≤ vec_capacity l.table)
    × (put_all (paired row_key row_ways l.table.items) (paired row_key row_ways l.left.items)
    ≡ put_all (paired row_key row_ways l.fn.table.items) (paired row_key row_ways l.fn.rows.items))

abbrev pub decreases-loop-row : goal.decreases-loop-row
decreases-loop-row l = goal.left-loop-row l
