use Rattle.std.proofs.Common.{◌≡◌, length, List, ℕ, ap, sym, ◌∙◌, arith}
use Rattle.std.proofs.lemmas.List.{length-map}
use Rattle.model_router.specs.Places.{nth}
use Rattle.model_router.specs.Routers.{Router}
use Rattle.model_network.specs.RunLines.{link_of}
use Rattle.network_lab.specs.LabNets.{LabNet}
use Rattle.network_lab.proofs.ReadLemmas.{port-is, port-there}
use Rattle.network_lab.proofs.network.Network.port.Goals as goal
use Rattle.network_lab.proofs.network.Network.port.Given.{Over}
use Rattle.network_lab.proofs.network.Network.port.Goals.{After-number_at}

is : (g : Over) (c : After-number_at g) → c.number_at.result ≡ link_of c.args.router c.args.place 0 c.args.self.now.seen.links
is g c =
    let s = ap (λ (l : LabNet). length l.seen.routers) c.self.view_is in
    let m = sym (length-map c.self.inside.routers.items (λ (r : Router). length r.circuits)) ∙ (ap length c.self.invariant.routers ∙ length-map c.self.inside.ports.items length) in
    c.number_at.ensures ∙ (ap (λ (xs : List ℕ). nth xs c.args.place) c.as_slice.ensures
    ∙ (port-is c.self.inside.ports.items c.self.inside.links.items c.args.router c.args.place c.index.result.now c.self.invariant.ported (omega (arith, c.requires, s, m)) c.index.ensures
    ∙ ap (λ (l : LabNet). link_of c.args.router c.args.place 0 l.seen.links) c.self.view_is))

pub returns-clause-link : goal.returns-clause-link
returns-clause-link g c = is g c

pub returns-clause-there : goal.returns-clause-there
returns-clause-there g c = port-there c.args.router c.args.place c.args.self.now.seen.links c.number_at.result (is g c)
