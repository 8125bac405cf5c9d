use Rattle.network_lab.proofs.TakeLemmas.{inject-off-ends, inject-ends, inject-is}
use Rattle.network_lab.proofs.network.Network.inject.Goals as goal

pub returns-in-None : goal.returns-in-None
returns-in-None g c = inject-off-ends c.args.self.now c.args.router c.args.link c.args.octets c.circuit_on.result c.in-None.is c.circuit_on.ensures.place

pub returns-in-Some : goal.returns-in-Some
returns-in-Some g c =
    let i = c.self.inside in
    inject-ends c.args.self.now _ c.give.new.self c.args.router c.args.link c.in-Some.circuit c.args.octets c.circuit_on.result c.give.result
    c.requires.there c.requires.running c.in-Some.is c.circuit_on.ensures.place
    (inject-is i.configs.items i.routers.items i.links.items i.sent.items i.injected c.one_more-self-inside.result i.notes i.begun i.stopped c.args.self.now c.self.view_is c.one_more-self-inside.ensures)
    c.give.ensures
