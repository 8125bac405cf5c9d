use Rattle.std.proofs.Common.{◌≡◌, ◌<◌, Some, length, map, get_or, ap, sym, refl, subst, ◌∙◌, arith}
use Rattle.std.proofs.lemmas.List.{length-map}
use Rattle.model_router.specs.Places.{nth}
use Rattle.model_router.specs.Routers.{Router}
use Rattle.model_network.specs.declared.end.End.{End}
use Rattle.model_network.specs.RunLines.{by_router, ends_of}
use Rattle.network_lab.specs.LabNets.{LabNet}
use Rattle.network_lab.proofs.PlaceLemmas.{to-place}
use Rattle.network_lab.proofs.ReadLemmas.{ends-is, end-is, end-there}
use Rattle.network_lab.proofs.network.Network.end_router.Goals as goal
use Rattle.network_lab.proofs.network.Network.end_router.Given.{Over}
use Rattle.network_lab.proofs.network.Network.end_router.Goals.{After-as_slice}

at : (g : Over) (c : After-as_slice g) → nth (by_router (ends_of (nth c.self.inside.links.items c.args.link))) c.args.place ≡ Some (get_or c.as_slice.result.now c.args.place (record { router = 0; place = 0 }))
at g c =
    let h = subst (λ (l : LabNet). c.args.place < length (by_router (ends_of (nth l.seen.links c.args.link)))) (sym c.self.view_is) c.requires in
    end-is c.as_slice.result.now (by_router (ends_of (nth c.self.inside.links.items c.args.link))) c.args.place (record { router = 0; place = 0 })
    (c.as_slice.ensures ∙ ends-is c.self.inside.links.items c.self.inside.ordered.items c.args.link c.args.place c.index.result.now c.self.invariant.sorted h c.index.ensures) h

pub returns-clause-router : goal.returns-clause-router
returns-clause-router g c =
    to-place (λ (e : End). (get_or c.as_slice.result.now c.args.place (record { router = 0; place = 0 })).router ≡ e.router)
    (nth (by_router (ends_of (nth c.args.self.now.seen.links c.args.link))) c.args.place) _
    (ap (λ (l : LabNet). nth (by_router (ends_of (nth l.seen.links c.args.link))) c.args.place) (sym c.self.view_is) ∙ at g c) refl

pub returns-clause-there : goal.returns-clause-there
returns-clause-there g c =
    let l = end-there (map length c.self.inside.ports.items) c.self.inside.links.items c.args.link c.args.place _ c.self.invariant.ends (at g c) in
    let s = ap (λ (l : LabNet). length l.seen.routers) c.self.view_is in
    let m = sym (length-map c.self.inside.routers.items (λ (r : Router). length r.circuits)) ∙ ap length c.self.invariant.routers in
    omega (arith, l, s, m)
