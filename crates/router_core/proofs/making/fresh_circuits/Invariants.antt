use Rattle.std.proofs.Common.{◌≡◌, take, map}
use Rattle.model_router.specs.Starts.{started}
use Rattle.router_core.proofs.making.fresh_circuits.Given as goal

-- the circuits so far
abbrev pub invariant-loop-place : goal.invariant-loop-place
invariant-loop-place l = l.list.items ≡ map started (take l.place l.circuits)
