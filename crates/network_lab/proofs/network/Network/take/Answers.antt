use Rattle.std.proofs.Common.{ap, ◌∙◌}
use Rattle.network_lab.specs.LabNets.{LabNet}
use Rattle.network_lab.specs.LabInside.{lab_of}
use Rattle.network_lab.proofs.NotedLemmas.{net-noted, zero-is}
use Rattle.network_lab.proofs.TakeLemmas.{take-ends, take-goes}
use Rattle.network_lab.proofs.network.Network.take.Goals as goal

pub returns : goal.returns
returns g c =
    let i = c.self.inside in
    take-ends i.configs.items i.routers.items c.take_at-taken.new.routers.items i.links.items i.sent.items c.take_at-taken.new.sent.items i.injected i.notes c.take_at-taken.new.notes i.begun i.stopped c.err-self-inside.result c.args.self.now c.args.router c.args.link c.args.event c.args.heard c.take_at-taken.result
    c.self.view_is c.requires.running c.take_at-taken.ensures.routers c.take_at-taken.ensures.sent c.take_at-taken.ensures.noted c.take_at-taken.ensures.cause c.take_at-taken.ensures.shapes c.err-self-inside.ensures.value

pub invariant_of-self : goal.invariant_of-self
invariant_of-self g c =
    let i = c.self.inside in
    take-goes i.ports.items i.ordered.items i.configs.items i.routers.items c.take_at-taken.new.routers.items i.links.items i.sent.items c.take_at-taken.new.sent.items i.injected i.notes c.take_at-taken.new.notes i.begun i.stopped c.err-self-inside.result c.args.self.now c.args.router c.args.link c.args.event c.args.heard c.take_at-taken.result
    c.self.view_is c.requires.running c.requires.there c.self.invariant c.take_at-taken.ensures.routers c.take_at-taken.ensures.sent c.take_at-taken.ensures.noted c.take_at-taken.ensures.small c.err-self-inside.ensures.value c.requires.happens
    c.take_at-taken.ensures.shapes c.take_at-taken.ensures.few

pub take_at-taken-requires-clause-noted : goal.take_at-taken-requires-clause-noted
take_at-taken-requires-clause-noted g c quiet =
    let i = c.self.inside in
    net-noted i.ports.items i.ordered.items (lab_of i) c.args.router c.self.invariant
    (ap (λ (a : LabNet). a.stopped) c.self.view_is ∙ c.requires.running) (zero-is i.injected quiet)
