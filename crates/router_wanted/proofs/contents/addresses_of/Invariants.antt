use Rattle.std.proofs.Common.{◌≡◌, ◌≤◌, ◌++◌, drop, length}
use Rattle.model_router.specs.Wanted as model
use Rattle.router_wanted.proofs.contents.addresses_of.Given as goal

-- those so far and those that are left are all
abbrev pub invariant-loop-circuit : goal.invariant-loop-circuit
invariant-loop-circuit l =
    (l.list.items ++ model.addresses_of (drop l.circuit-index l.circuits) ≡ model.addresses_of l.circuits)
    × (length l.list.items ≤ l.circuit-index)
