use Rattle.std.proofs.Common.{length, ◌-◌}
use Rattle.route_table.specs.Order.{IsListedHop, HaveRoutes}
use Rattle.route_table.proofs.best.best_of.Given as goal

abbrev pub invariant-loop-first : goal.invariant-loop-first
invariant-loop-first l = HaveRoutes (IsListedHop l.one l.two) l.candidates l.routes.items l.first

abbrev pub decreases-loop-first : goal.decreases-loop-first
decreases-loop-first l = length l.candidates - l.first
