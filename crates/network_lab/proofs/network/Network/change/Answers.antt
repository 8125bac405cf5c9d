use Rattle.std.proofs.Common.{ap, sym, ◌∙◌, subst, None, Result, IfSome}
use Rattle.model_router.specs.Places.{nth}
use Rattle.model_router.specs.Routers.{Router}
use Rattle.router_core.specs.Events.{FitsChange, change_of}
use Rattle.lab_keys.specs.declared.faults.LabFault.{LabFault}
use Rattle.network_lab.specs.LabSteps.{Taken, moved_in}
use Rattle.network_lab.specs.LabNets.{LabNet}
use Rattle.network_lab.specs.LabEvents.{IsChange}
use Rattle.network_lab.proofs.PlaceLemmas.{of-place, to-place}
use Rattle.network_lab.proofs.EventLemmas.{fits-change}
use Rattle.network_lab.proofs.TakeLemmas.{here, change-off-ends, change-ends, change-breaks, change-stops, change-happens, taken-beside}
use Rattle.network_lab.proofs.network.Network.change.Goals as goal

pub returns-in-Some : goal.returns-in-Some
returns-in-Some g c =
    change-off-ends c.args.self.now c.args.router c.args.change c.index.result.now c.in-Some.fault
    (here c.self.inside.routers.items c.args.self.now c.args.router c.index.result.now (ap (λ (l : LabNet). l.seen.routers) c.self.view_is) c.requires.there c.index.ensures)
    (sym c.change_fault.ensures ∙ c.in-Some.is)

pub take-requires-clause-fits : goal.take-requires-clause-fits
take-requires-clause-fits g c =
    let q = here c.self.inside.routers.items c.args.self.now c.args.router c.index.result.now (ap (λ (l : LabNet). l.seen.routers) c.self.view_is) c.requires.there c.index.ensures in
    to-place (λ (r : Router). FitsChange r c.args.change) (nth c.args.self.now.seen.routers c.args.router) c.index.result.now q
    (fits-change c.index.result.now c.args.change (of-place (λ (r : Router). IsChange r c.args.change) (nth c.args.self.now.seen.routers c.args.router) c.index.result.now q c.requires.change) (sym c.change_fault.ensures ∙ c.in_default.is))

pub returns-in-Err : goal.returns-in-Err
returns-in-Err g c =
    change-stops c.args.self.now c.stop.new.self c.args.router c.args.change c.index.result.now c.stop.result
    (here c.self.inside.routers.items c.args.self.now c.args.router c.index.result.now (ap (λ (l : LabNet). l.seen.routers) c.self.view_is) c.requires.there c.index.ensures)
    (sym c.change_fault.ensures ∙ c.in_default.is) c.stop.ensures.result c.stop.ensures.stopped

pub returns-in-Ok-take : goal.returns-in-Ok-take
returns-in-Ok-take g c =
    change-ends c.args.self.now c.take.new.self c.put_config.new.self c.args.router c.args.change c.config.result.now c.in-Ok.config c.index.result.now c.requires.running
    (here c.self.inside.routers.items c.args.self.now c.args.router c.index.result.now (ap (λ (l : LabNet). l.seen.routers) c.self.view_is) c.requires.there c.index.ensures)
    (sym c.change_fault.ensures ∙ c.in_default.is) c.config.ensures c.in-Ok.ensures
    (subst (λ (res : Result (Unit {0}) LabFault). IfSome (nth c.args.self.now.seen.routers c.args.router) (λ r. Taken c.args.self.now c.take.new.self (moved_in c.args.self.now.seen c.args.router None (change_of c.args.change) r None) res)) c.in-Ok-take.is c.take.ensures)
    c.put_config.ensures

pub returns-in-Err-take : goal.returns-in-Err-take
returns-in-Err-take g c =
    change-breaks c.args.self.now c.take.new.self c.args.router c.args.change c.index.result.now c.in-Err-take.fault c.requires.running
    (here c.self.inside.routers.items c.args.self.now c.args.router c.index.result.now (ap (λ (l : LabNet). l.seen.routers) c.self.view_is) c.requires.there c.index.ensures)
    (sym c.change_fault.ensures ∙ c.in_default.is)
    (subst (λ (res : Result (Unit {0}) LabFault). IfSome (nth c.args.self.now.seen.routers c.args.router) (λ r. Taken c.args.self.now c.take.new.self (moved_in c.args.self.now.seen c.args.router None (change_of c.args.change) r None) res)) c.in-Err-take.is c.take.ensures)

pub put_config-requires-clause-begun : goal.put_config-requires-clause-begun
put_config-requires-clause-begun g c = (taken-beside c.args.self.now c.take.new.self c.args.router c.args.change c.config.result.now c.in-Ok.config c.index.result.now
    (here c.self.inside.routers.items c.args.self.now c.args.router c.index.result.now (ap (λ (l : LabNet). l.seen.routers) c.self.view_is) c.requires.there c.index.ensures)
    c.config.ensures c.in-Ok.ensures
    (subst (λ (res : Result (Unit {0}) LabFault). IfSome (nth c.args.self.now.seen.routers c.args.router) (λ r. Taken c.args.self.now c.take.new.self (moved_in c.args.self.now.seen c.args.router None (change_of c.args.change) r None) res)) c.in-Ok-take.is c.take.ensures)).begun

pub put_config-requires-clause-there : goal.put_config-requires-clause-there
put_config-requires-clause-there g c = (taken-beside c.args.self.now c.take.new.self c.args.router c.args.change c.config.result.now c.in-Ok.config c.index.result.now
    (here c.self.inside.routers.items c.args.self.now c.args.router c.index.result.now (ap (λ (l : LabNet). l.seen.routers) c.self.view_is) c.requires.there c.index.ensures)
    c.config.ensures c.in-Ok.ensures
    (subst (λ (res : Result (Unit {0}) LabFault). IfSome (nth c.args.self.now.seen.routers c.args.router) (λ r. Taken c.args.self.now c.take.new.self (moved_in c.args.self.now.seen c.args.router None (change_of c.args.change) r None) res)) c.in-Ok-take.is c.take.ensures)).there

pub put_config-requires-clause-circuits : goal.put_config-requires-clause-circuits
put_config-requires-clause-circuits g c = (taken-beside c.args.self.now c.take.new.self c.args.router c.args.change c.config.result.now c.in-Ok.config c.index.result.now
    (here c.self.inside.routers.items c.args.self.now c.args.router c.index.result.now (ap (λ (l : LabNet). l.seen.routers) c.self.view_is) c.requires.there c.index.ensures)
    c.config.ensures c.in-Ok.ensures
    (subst (λ (res : Result (Unit {0}) LabFault). IfSome (nth c.args.self.now.seen.routers c.args.router) (λ r. Taken c.args.self.now c.take.new.self (moved_in c.args.self.now.seen c.args.router None (change_of c.args.change) r None) res)) c.in-Ok-take.is c.take.ensures)).circuits

pub take-requires-clause-happens : goal.take-requires-clause-happens
take-requires-clause-happens g c =
    let q = here c.self.inside.routers.items c.args.self.now c.args.router c.index.result.now (ap (λ (l : LabNet). l.seen.routers) c.self.view_is) c.requires.there c.index.ensures in
    let none = sym c.change_fault.ensures ∙ c.in_default.is in
    change-happens c.args.self.now c.args.router c.args.change c.index.result.now q
    (fits-change c.index.result.now c.args.change (of-place (λ (r : Router). IsChange r c.args.change) (nth c.args.self.now.seen.routers c.args.router) c.index.result.now q c.requires.change) none) none
