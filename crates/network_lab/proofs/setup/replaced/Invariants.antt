use Rattle.std.proofs.Common.{◌≡◌, take}
use Rattle.model_router.specs.Places.{with_nth}
use Rattle.network_lab.proofs.setup.replaced.Given as goal

abbrev pub invariant-loop-at : goal.invariant-loop-at
invariant-loop-at l = l.copies ≡ take l.at (with_nth l.list l.place l.circuit)
