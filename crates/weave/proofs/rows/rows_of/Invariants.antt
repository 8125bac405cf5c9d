use Rattle.std.proofs.Common.{map, take}
use Rattle.weave.specs.Woven.{AreRows}
use Rattle.weave.proofs.rows.rows_of.Given as goal

abbrev pub invariant-loop-router : goal.invariant-loop-router
invariant-loop-router l = AreRows (take l.router l.network.seen.routers) l.network.seen.links (map (λ row. row.items) l.rows.items)
