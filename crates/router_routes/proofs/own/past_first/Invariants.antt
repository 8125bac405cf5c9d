use Rattle.std.proofs.Common.{◌-◌, ◌≤◌, List, length, drop}
use Rattle.isis_base.specs.declared.prefix.Prefix.{Prefix}
use Rattle.router_routes.specs.Touched.{HaveOwn}
use Rattle.router_routes.proofs.own.past_first.Given as goal

-- what is left decides
abbrev pub invariant-loop-place : goal.invariant-loop-place
invariant-loop-place l =
    (l.place ≤ length l.old) × (l.place ≤ length l.new)
    × ((prefixes : List Prefix) → HaveOwn (drop l.place l.old) (drop l.place l.new) prefixes → HaveOwn l.old l.new prefixes)

abbrev pub decreases-loop-place : goal.decreases-loop-place
decreases-loop-place l = length l.old - l.place
