use Rattle.std.proofs.Common.{◌≡◌, drop}
use Rattle.router_desk.specs.Limits.{fit_circuits}
use Rattle.router_desk.proofs.valid.fit_circuits.Given as goal

-- what is left fits where the whole does
abbrev pub invariant-loop-circuit : goal.invariant-loop-circuit
invariant-loop-circuit l = fit_circuits (drop l.circuit-index l.circuits) ≡ fit_circuits l.circuits
