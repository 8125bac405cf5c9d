use Rattle.std.proofs.Common.{arith}
use Rattle.model_router.specs.Places.{nth}
use Rattle.model_network.specs.RunLines.{by_router, ends_of}
use Rattle.lossy_runs.specs.Comings.{routers_of}
use Rattle.lab_losses.proofs.ReplayLemmas.{routers-step}
use Rattle.lab_losses.proofs.replay.Replay.routers_of.Goals as goal

pub loop-place-preserved : goal.loop-place-preserved
loop-place-preserved c =
    routers-step (by_router (ends_of (nth c.args.self.now.net.seen.links c.args.link))) c.loop-place.place c.end_router.result c.loop-place.routers.items c.push.new.self.items
    (routers_of (by_router (ends_of (nth c.args.self.now.net.seen.links c.args.link))))
    (omega (arith, c.loop-place-test.true, c.ends_count-count.ensures)) c.end_router.ensures.router c.loop-place.invariant c.in-Ok.ensures.items
