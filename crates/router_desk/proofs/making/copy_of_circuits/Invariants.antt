use Rattle.std.proofs.Common.{◌≡◌, take}
use Rattle.router_desk.proofs.making.copy_of_circuits.Given as goal

-- the list has the circuits so far
abbrev pub invariant-loop-place : goal.invariant-loop-place
invariant-loop-place l = l.list.items ≡ take l.place l.circuits
