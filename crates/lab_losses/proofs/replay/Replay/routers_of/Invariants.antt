use Rattle.std.proofs.Common.{◌≡◌, ◌++◌, drop}
use Rattle.model_router.specs.Places.{nth}
use Rattle.model_network.specs.RunLines.{by_router, ends_of}
use Rattle.lossy_runs.specs.Comings.{routers_of}
use Rattle.lab_losses.proofs.replay.Replay.routers_of.Given as goal

abbrev pub invariant-loop-place : goal.invariant-loop-place
invariant-loop-place l =
    l.routers.items ++ routers_of (drop l.place (by_router (ends_of (nth l.self.net.seen.links l.link))))
    ≡ routers_of (by_router (ends_of (nth l.self.net.seen.links l.link)))
