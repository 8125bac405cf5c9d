use Rattle.std.proofs.Common.{◌≡◌, ◌-◌, drop, length}
use Rattle.model_network.specs.RunLines.{by_router}
use Rattle.network_lab.proofs.joining.ordered_of.Given as goal

-- the last ones are in order
abbrev pub invariant-loop-behind : goal.invariant-loop-behind
invariant-loop-behind l = l.ordered.items ≡ by_router (drop (length l.ends - l.behind) l.ends)
