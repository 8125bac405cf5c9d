use Rattle.std.proofs.Common.{◌≡◌, ◌≤◌, length, drop}
use Rattle.router_desk.specs.Configs.{prefixes_of}
use Rattle.router_core.proofs.prefixes.OwnPrefixes.of.Given as goal

-- those from the index on are put
abbrev pub invariant-loop-left : goal.invariant-loop-left
invariant-loop-left l = (l.own ≡ prefixes_of (drop l.left l.prefixes)) × (l.left ≤ length l.prefixes)

abbrev pub decreases-loop-left : goal.decreases-loop-left
decreases-loop-left l = l.left
