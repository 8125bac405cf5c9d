use Rattle.std.proofs.Common.{◌-◌, ◌≤◌, List, length, drop}
use Rattle.route_table.specs.declared.candidate.Candidate.{Candidate}
use Rattle.router_routes.specs.Ways.{AreApart}
use Rattle.router_routes.proofs.apart.past_first.Given as goal

-- what is left decides
abbrev pub invariant-loop-place : goal.invariant-loop-place
invariant-loop-place l =
    (l.place ≤ length l.gone) × (l.place ≤ length l.come)
    × ((left right : List Candidate) → AreApart (drop l.place l.gone) (drop l.place l.come) left right → AreApart l.gone l.come left right)

abbrev pub decreases-loop-place : goal.decreases-loop-place
decreases-loop-place l = length l.gone - l.place
