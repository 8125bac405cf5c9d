use Rattle.std.proofs.Common.{arith}
use Rattle.model_network.specs.Runs.{PullOn, apply}
use Rattle.network_lab.specs.Passed.{given}
use Rattle.lab_losses.proofs.ReplayLemmas.{no-pull, stays, router-count, no-link, link-count}
use Rattle.lab_losses.proofs.replay.ReplayLab.pull.Goals as goal

pub returns-then-router-routers-clause-done : goal.returns-then-router-routers-clause-done
returns-then-router-routers-clause-done c net r =
    stays c.args.self.now.script.now c.args.self.now.went_on c.args.self.now.net net (apply given net (PullOn c.args.router c.args.link))
    (no-pull net c.args.router c.args.link (let n = router-count net c.args.self.now.net c.routers.result r.stands c.routers.ensures in omega (arith, n, c.if-router-routers.true))) r

pub returns-then-link-links-clause-done : goal.returns-then-link-links-clause-done
returns-then-link-links-clause-done c net r =
    stays c.args.self.now.script.now c.args.self.now.went_on c.args.self.now.net net (apply given net (PullOn c.args.router c.args.link))
    (no-link net c.args.router c.args.link (let n = link-count net c.args.self.now.net c.links.result r.stands c.links.ensures in omega (arith, n, c.if-link-links.true))) r
