use Rattle.std.proofs.Common.{◌≡◌, take, map}
use Rattle.router_desk.specs.Configs.{circuit_of}
use Rattle.router_core.proofs.making.circuits_of.Given as goal

-- the circuits so far
abbrev pub invariant-loop-place : goal.invariant-loop-place
invariant-loop-place l = l.list.items ≡ map circuit_of (take l.place l.configs)
