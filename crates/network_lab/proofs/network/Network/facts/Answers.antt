use Rattle.std.proofs.Common.{◌≡◌, false, None, subst}
use Rattle.network_lab.specs.LabNets.{LabNet, AreDistinct, systems_of}
use Rattle.network_lab.specs.LabInside.{lab_of}
use Rattle.network_lab.specs.Claims.{AreEnds, HaveOneLink, IsClaimed}
use Rattle.network_lab.specs.LinkStates.{AreWithin}
use Rattle.network_lab.specs.Reached.{HasRun, HoldNothing}
use Rattle.network_lab.proofs.StateLemmas.{ends-are}
use Rattle.network_lab.proofs.StartLemmas.{has-run, nothing-held, are-within}
use Rattle.network_lab.proofs.AgreeLemmas.{are-claimed}
use Rattle.network_lab.proofs.network.Network.facts.Goals as goal

pub returns-clause-ends : goal.returns-clause-ends
returns-clause-ends g c =
    subst (λ (a : LabNet). AreEnds a.seen) c.self.view_is
    (ends-are c.self.inside.ports.items c.self.inside.ordered.items (lab_of c.self.inside) c.self.invariant)

pub returns-clause-wired : goal.returns-clause-wired
returns-clause-wired g c = subst (λ (a : LabNet). HaveOneLink a.seen.links) c.self.view_is c.self.invariant.wired.once

pub returns-clause-systems : goal.returns-clause-systems
returns-clause-systems g c = subst (λ (a : LabNet). AreDistinct (systems_of a.seen.routers)) c.self.view_is c.self.invariant.systems

pub returns-clause-run : goal.returns-clause-run
returns-clause-run g c =
    subst (λ (a : LabNet). a.stopped ≡ None → a.seen.injected ≡ 0 → HasRun a.seen) c.self.view_is
    (has-run c.self.inside.ports.items c.self.inside.ordered.items (lab_of c.self.inside) c.self.invariant)

pub returns-clause-fresh : goal.returns-clause-fresh
returns-clause-fresh g c =
    subst (λ (a : LabNet). a.begun ≡ false → HoldNothing a.seen.routers) c.self.view_is
    (nothing-held c.self.inside.ports.items c.self.inside.ordered.items (lab_of c.self.inside) c.self.invariant)

pub returns-clause-claimed : goal.returns-clause-claimed
returns-clause-claimed g c =
    subst (λ (a : LabNet). a.stopped ≡ None → IsClaimed a.seen) c.self.view_is
    (are-claimed c.self.inside.ports.items c.self.inside.ordered.items (lab_of c.self.inside) c.self.invariant)

pub returns-clause-within : goal.returns-clause-within
returns-clause-within g c =
    subst (λ (a : LabNet). a.stopped ≡ None → AreWithin a.seen) c.self.view_is
    (are-within c.self.inside.ports.items c.self.inside.ordered.items (lab_of c.self.inside) c.self.invariant)
