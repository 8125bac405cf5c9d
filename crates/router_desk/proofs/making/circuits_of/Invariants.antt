use Rattle.std.proofs.Common.{◌≡◌, take, map}
use Rattle.router_desk.specs.Configs.{circuit_of}
use Rattle.router_desk.specs.Desks.{desk_circuit}
use Rattle.router_desk.proofs.making.circuits_of.Given as goal

-- the list has the circuits so far
abbrev pub invariant-loop-place : goal.invariant-loop-place
invariant-loop-place l = l.list.items ≡ map desk_circuit (map circuit_of (take l.place l.circuits))
