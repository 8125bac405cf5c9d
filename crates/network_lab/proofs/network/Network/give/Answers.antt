use Rattle.std.proofs.Common.{◌-◌, ap, ◌∙◌}
use Rattle.network_lab.specs.LabNets.{LabNet}
use Rattle.network_lab.proofs.TakeLemmas.{give-happens}
use Rattle.network_lab.proofs.network.Network.give.Goals as goal

pub take-requires-clause-happens : goal.take-requires-clause-happens
take-requires-clause-happens g c =
    give-happens c.args.self.now.seen c.deref.result.now c.args.router c.args.link (c.args.circuit - 1) c.taking_at-event.result c.args.octets
    (c.deref.ensures.value ∙ ap (λ (l : LabNet). l.seen.routers) c.self.view_is) c.taking_at-event.ensures.event c.requires.happens
