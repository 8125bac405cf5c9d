use Rattle.std.proofs.Common.{◌≡◌, take, map}
use Rattle.router_core.specs.Seconds.{bare_later}
use Rattle.router_core.proofs.second.circuits_later.Given as goal

-- the first so many
abbrev pub invariant-loop-place : goal.invariant-loop-place
invariant-loop-place l = l.list.items ≡ map bare_later (take l.place l.circuits)
