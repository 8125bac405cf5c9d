use Rattle.std.proofs.Common.{◌≡◌, take}
use Rattle.weave.proofs.replaying.copies_of.Given as goal

abbrev pub invariant-loop-router : goal.invariant-loop-router
invariant-loop-router l = l.routers.items ≡ take l.router l.network.seen.routers
