use Rattle.std.proofs.Common.{◌≡◌, ◌-◌, Some, IfSome, length, ap, sym, ◌∙◌, arith}
use Rattle.model_router.specs.Places.{nth}
use Rattle.model_router.specs.Routers.{Router}
use Rattle.router_core.specs.Events.{event_of, Fits, IsThere}
use Rattle.model_network.specs.Runs.{taking}
use Rattle.network_lab.specs.declared.sent.SentDatagram.{SentDatagram}
use Rattle.network_lab.specs.LabNets.{LabNet}
use Rattle.network_lab.specs.LabTakings.{IsHeard}
use Rattle.network_lab.proofs.PlaceLemmas.{nth-get, of-place}
use Rattle.network_lab.proofs.HearLemmas.{ok-place}
use Rattle.network_lab.proofs.TakeLemmas.{here}
use Rattle.network_lab.proofs.network.Network.hearing.Goals as goal
use Rattle.network_lab.proofs.network.Network.hearing.Given.{Over}
use Rattle.network_lab.proofs.network.Network.hearing.Goals.{After-heard_by}

pub heard_by-requires : goal.heard_by-requires
heard_by-requires g c =
    of-place (λ (r : Router). IsThere r c.args.circuit) (nth c.args.self.now.seen.routers c.args.router) c.index.result.now
    (here c.self.inside.routers.items c.args.self.now c.args.router c.index.result.now (ap (λ (l : LabNet). l.seen.routers) c.self.view_is) c.requires.there c.index.ensures) c.requires.circuit

router-at : (g : Over) (c : After-heard_by g) → nth c.args.self.now.seen.routers c.args.router ≡ Some c.index.result.now
router-at g c = here c.self.inside.routers.items c.args.self.now c.args.router c.index.result.now (ap (λ (l : LabNet). l.seen.routers) c.self.view_is) c.requires.there c.index.ensures

sent-at : (g : Over) (c : After-heard_by g) → nth c.args.self.now.seen.sent (c.args.number - 1) ≡ Some c.index-datagram.result.now
sent-at g c =
    let s = ap (λ (l : LabNet). length l.seen.sent) c.self.view_is in
    ap (λ (l : LabNet). nth l.seen.sent (c.args.number - 1)) (sym c.self.view_is)
    ∙ nth-get c.self.inside.sent.items (c.args.number - 1) c.index-datagram.result.now (let h = c.requires.sent in omega (arith, h, s)) c.index-datagram.ensures

pub returns-clause-fits : goal.returns-clause-fits
returns-clause-fits g c = ok-place c.heard_by.result (λ r h. Fits r h.event) (nth c.args.self.now.seen.routers c.args.router) c.index.result.now (router-at g c) c.heard_by.ensures.fits

pub returns-clause-event : goal.returns-clause-event
returns-clause-event g c =
    ok-place c.heard_by.result (λ r h. IfSome (nth c.args.self.now.seen.sent (c.args.number - 1)) (λ d. event_of r h.event ≡ taking r (c.args.circuit - 1) d.octets)) (nth c.args.self.now.seen.routers c.args.router) c.index.result.now (router-at g c)
    (ok-place c.heard_by.result (λ (d : SentDatagram) h. event_of c.index.result.now h.event ≡ taking c.index.result.now (c.args.circuit - 1) d.octets) (nth c.args.self.now.seen.sent (c.args.number - 1)) c.index-datagram.result.now (sent-at g c) c.heard_by.ensures.event)

pub returns-clause-heard : goal.returns-clause-heard
returns-clause-heard g c =
    ok-place c.heard_by.result (λ r h. IfSome (nth c.args.self.now.seen.sent (c.args.number - 1)) (λ d. IsHeard c.args.router (c.args.circuit - 1) r d h.heard)) (nth c.args.self.now.seen.routers c.args.router) c.index.result.now (router-at g c)
    (ok-place c.heard_by.result (λ (d : SentDatagram) h. IsHeard c.args.router (c.args.circuit - 1) c.index.result.now d h.heard) (nth c.args.self.now.seen.sent (c.args.number - 1)) c.index-datagram.result.now (sent-at g c) c.heard_by.ensures.heard)
