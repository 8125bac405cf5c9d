use Rattle.std.proofs.Common.{length, List, ℕ, ap, sym, ◌∙◌, subst, arith}
use Rattle.std.proofs.lemmas.List.{length-map}
use Rattle.model_router.specs.Places.{nth}
use Rattle.model_router.specs.Routers.{Router}
use Rattle.model_network.specs.RunLines.{circuit_count}
use Rattle.network_lab.specs.LabNets.{LabNet}
use Rattle.network_lab.specs.Claims.{AreLinksOf}
use Rattle.network_lab.proofs.PlaceLemmas.{nth-get}
use Rattle.network_lab.proofs.ReadLemmas.{circuits-is}
use Rattle.network_lab.proofs.PortLemmas.{links-of}
use Rattle.network_lab.proofs.network.Network.ports.Goals as goal

pub returns-clause-size : goal.returns-clause-size
returns-clause-size g c =
    let s = ap (λ (l : LabNet). length l.seen.routers) c.self.view_is in
    ap length c.as_slice.ensures
    ∙ (circuits-is c.self.inside.routers.items c.self.inside.ports.items c.args.router c.index.result.now c.self.invariant.routers (omega (arith, c.requires, s)) c.index.ensures
    ∙ ap (λ (l : LabNet). circuit_count (nth l.seen.routers c.args.router)) c.self.view_is)

pub returns-clause-on : goal.returns-clause-on
returns-clause-on g c =
    let s = ap (λ (l : LabNet). length l.seen.routers) c.self.view_is in
    let m = sym (length-map c.self.inside.routers.items (λ (r : Router). length r.circuits)) ∙ (ap length c.self.invariant.routers ∙ length-map c.self.inside.ports.items length) in
    let at = nth-get c.self.inside.ports.items c.args.router c.index.result.now (omega (arith, c.requires, s, m)) c.index.ensures in
    subst (λ (l : LabNet). AreLinksOf l.seen.links c.args.router c.as_slice.result.now) c.self.view_is
    (subst (λ (list : List ℕ). AreLinksOf c.self.inside.links.items c.args.router list) (sym c.as_slice.ensures)
    (links-of c.self.inside.ports.items c.self.inside.links.items c.args.router c.index.result.now c.self.invariant.ported c.self.invariant.apart at))
