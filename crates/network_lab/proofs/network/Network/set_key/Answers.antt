use Rattle.std.proofs.Common.{Some}
use Rattle.router_desk.specs.declared.circuit_config.CircuitConfig.{CircuitConfig}
use Rattle.router_desk.specs.Limits.{IsCircuit}
use Rattle.network_lab.proofs.ConfigLemmas.{key-fits}
use Rattle.network_lab.proofs.SetupLemmas.{both-there, change-setup}
use Rattle.network_lab.proofs.network.Network.set_key.Goals as goal

pub invariant_of-self : goal.invariant_of-self
invariant_of-self g c = (change-setup (λ (x : CircuitConfig). record x { key = Some c.args.key })
    c.self.inside.ports.items c.self.inside.ordered.items c.self.inside.links.items c.self.inside.configs.items c.put_setup.new.configs.items c.self.inside.routers.items c.put_setup.new.routers.items c.self.inside.sent.items c.self.inside.injected c.self.inside.notes c.self.inside.begun c.self.inside.stopped
    c.args.self.now c.args.router c.args.circuit c.from-place.result c.index.result.now c.index-2.result.now c.in_ok-setup.setup.config c.in_ok-setup.setup.router c.as_slice.result.now c.index-as_slice-place.result c.in_ok-changed.changed
    c.self.view_is c.self.invariant c.requires.setup c.requires.there c.index.ensures c.index-2.ensures c.as_slice.ensures c.from-place.ensures c.index-as_slice-place.is c.in_ok-changed.ensures
    (λ (f : IsCircuit c.index-as_slice-place.result). key-fits c.index-as_slice-place.result c.args.key f c.requires.key)
    c.in_ok-setup.ensures.config c.in_ok-setup.ensures.router c.in_ok-setup.ensures.reached c.put_setup.ensures.configs c.put_setup.ensures.routers).0

pub returns-clause-ok : goal.returns-clause-ok
returns-clause-ok g c = (change-setup (λ (x : CircuitConfig). record x { key = Some c.args.key })
    c.self.inside.ports.items c.self.inside.ordered.items c.self.inside.links.items c.self.inside.configs.items c.put_setup.new.configs.items c.self.inside.routers.items c.put_setup.new.routers.items c.self.inside.sent.items c.self.inside.injected c.self.inside.notes c.self.inside.begun c.self.inside.stopped
    c.args.self.now c.args.router c.args.circuit c.from-place.result c.index.result.now c.index-2.result.now c.in_ok-setup.setup.config c.in_ok-setup.setup.router c.as_slice.result.now c.index-as_slice-place.result c.in_ok-changed.changed
    c.self.view_is c.self.invariant c.requires.setup c.requires.there c.index.ensures c.index-2.ensures c.as_slice.ensures c.from-place.ensures c.index-as_slice-place.is c.in_ok-changed.ensures
    (λ (f : IsCircuit c.index-as_slice-place.result). key-fits c.index-as_slice-place.result c.args.key f c.requires.key)
    c.in_ok-setup.ensures.config c.in_ok-setup.ensures.router c.in_ok-setup.ensures.reached c.put_setup.ensures.configs c.put_setup.ensures.routers).1

pub put_setup-requires : goal.put_setup-requires
put_setup-requires g c = record { there = both-there c.self.inside.ports.items c.self.inside.ordered.items _ c.args.self.now c.args.router c.self.view_is c.self.invariant c.requires.there.0 }
