use Rattle.std.proofs.Common.{◌+◌, ◌++◌, Bool, List, drop, ap, ◌∙◌}
use Rattle.network_lab.specs.LinkStates.{runs_of}
use Rattle.network_lab.proofs.StateLemmas.{runs-step}
use Rattle.network_lab.proofs.network.Network.add_run.Goals as goal

pub returns : goal.returns
returns g c =
    ap (λ (xs : List Bool). xs ++ runs_of (drop (c.args.router + 1) c.args.self.now.seen.routers) c.args.level) c.in_ok-push.ensures.items
    ∙ runs-step c.args.self.now.seen.routers c.args.router c.args.level c.runs_at.result c.args.runs.now.items c.requires c.runs_at.ensures
