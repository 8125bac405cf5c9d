use Rattle.std.proofs.Common.{◌≤◌, List, length, take}
use Rattle.isis_base.specs.declared.prefix.Prefix.{Prefix}
use Rattle.router_routes.specs.Touched.{HaveOwn}
use Rattle.router_routes.proofs.own.before_last.Given as goal

-- what is left decides
abbrev pub invariant-loop-end : goal.invariant-loop-end
invariant-loop-end l =
    (l.end ≤ length l.old) × (l.other ≤ length l.new)
    × ((prefixes : List Prefix) → HaveOwn (take l.end l.old) (take l.other l.new) prefixes → HaveOwn l.old l.new prefixes)

abbrev pub decreases-loop-end : goal.decreases-loop-end
decreases-loop-end l = l.end
