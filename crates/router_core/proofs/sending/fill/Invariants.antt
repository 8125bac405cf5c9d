use Rattle.std.proofs.Common.{◌≡◌, ◌++◌, length}
use Rattle.router_core.proofs.sending.fill.Given as goal

-- what is there, and what is left
abbrev pub invariant-loop-said : goal.invariant-loop-said
invariant-loop-said l = l.room.items ++ l.walk ≡ l.fn.walk

abbrev pub decreases-loop-said : goal.decreases-loop-said
decreases-loop-said l = length l.walk
