use Rattle.std.proofs.Common.{arith}
use Rattle.model_network.specs.Runs.{Tick, apply}
use Rattle.network_lab.specs.Passed.{given}
use Rattle.lab_losses.proofs.ReplayLemmas.{no-tick, stays, router-count}
use Rattle.lab_losses.proofs.replay.ReplayLab.tick.Goals as goal

pub returns-then-router-routers-clause-done : goal.returns-then-router-routers-clause-done
returns-then-router-routers-clause-done c net r =
    stays c.args.self.now.script.now c.args.self.now.went_on c.args.self.now.net net (apply given net (Tick c.args.router))
    (no-tick net c.args.router (let n = router-count net c.args.self.now.net c.routers.result r.stands c.routers.ensures in omega (arith, n, c.if-router-routers.true))) r
