use Rattle.std.proofs.Common.{◌≡◌, take}
use Rattle.router_desk.proofs.copies.copy_of_circuits.Given as goal

-- the copies are those of the circuits so far
abbrev pub invariant-loop-place : goal.invariant-loop-place
invariant-loop-place l = l.copies ≡ take l.place l.circuits
