use Rattle.std.proofs.Common.{◌≡◌, take, map}
use Rattle.router_desk.specs.Desks.{kind_of_circuit}
use Rattle.router_core.proofs.making.kinds_of.Given as goal

-- the kinds so far
abbrev pub invariant-loop-place : goal.invariant-loop-place
invariant-loop-place l = l.kinds.items ≡ map (λ c. kind_of_circuit c.lan) (take l.place l.circuits)
