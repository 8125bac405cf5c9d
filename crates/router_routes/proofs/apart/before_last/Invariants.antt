use Rattle.std.proofs.Common.{◌≤◌, List, length, take}
use Rattle.route_table.specs.declared.candidate.Candidate.{Candidate}
use Rattle.router_routes.specs.Ways.{AreApart}
use Rattle.router_routes.proofs.apart.before_last.Given as goal

-- what is left decides
abbrev pub invariant-loop-end : goal.invariant-loop-end
invariant-loop-end l =
    (l.end ≤ length l.gone) × (l.other ≤ length l.come)
    × ((left right : List Candidate) → AreApart (take l.end l.gone) (take l.other l.come) left right → AreApart l.gone l.come left right)

abbrev pub decreases-loop-end : goal.decreases-loop-end
decreases-loop-end l = l.end
