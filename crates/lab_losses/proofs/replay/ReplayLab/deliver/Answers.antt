use Rattle.std.proofs.Common.{arith}
use Rattle.model_network.specs.Runs.{Deliver, apply}
use Rattle.network_lab.specs.Passed.{given}
use Rattle.lab_losses.proofs.ReplayLemmas.{no-delivery, stays, router-count}
use Rattle.lab_losses.proofs.replay.ReplayLab.deliver.Goals as goal

pub returns-then-router-routers-clause-done : goal.returns-then-router-routers-clause-done
returns-then-router-routers-clause-done c net r =
    stays c.args.self.now.script.now c.args.self.now.went_on c.args.self.now.net net (apply given net (Deliver c.args.datagram c.args.router))
    (no-delivery net c.args.datagram c.args.router (let n = router-count net c.args.self.now.net c.routers.result r.stands c.routers.ensures in omega (arith, n, c.if-router-routers.true))) r
