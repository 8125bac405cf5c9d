use Rattle.std.proofs.Common.{◌≡◌, ◌+◌, ◌-◌, ◌<◌, List, length, Some, ap, sym, ◌∙◌, arith}
use Rattle.model_router.specs.Places.{nth}
use Rattle.model_router.specs.Routers.{Router}
use Rattle.model_network.specs.declared.end.End.{End}
use Rattle.model_network.specs.Networks.{place_in}
use Rattle.router_core.specs.Events.{IsThere}
use Rattle.network_lab.specs.LabNets.{LabNet}
use Rattle.network_lab.proofs.PlaceLemmas.{nth-get, to-place}
use Rattle.network_lab.proofs.TakeLemmas.{circuit-less}
use Rattle.network_lab.proofs.network.Network.circuit_on.Goals as goal
use Rattle.network_lab.proofs.network.Network.circuit_on.Given.{Over}
use Rattle.network_lab.proofs.network.Network.circuit_on.Goals.{After-facts}

on-link : (g : Over) (c : After-facts g) → Some c.in_ok-place.place ≡ place_in (nth c.self.inside.links.items c.args.link) c.args.router
on-link g c = c.in_ok-place.ensures ∙ ap (λ (rows : List (List End)). place_in (nth rows c.args.link) c.args.router) c.deref.ensures.value

at : (g : Over) (c : After-facts g) → nth c.self.inside.routers.items c.args.router ≡ Some c.index.result.now
at g c =
    let s = ap (λ (l : LabNet). length l.seen.routers) c.self.view_is in
    nth-get c.self.inside.routers.items c.args.router c.index.result.now (omega (arith, c.requires, s)) c.index.ensures

less : (g : Over) (c : After-facts g) → c.in_ok-place.place < length c.index.result.now.circuits
less g c = circuit-less c.self.inside.ports.items c.self.inside.ordered.items _ c.args.link c.args.router c.in_ok-place.place c.index.result.now c.self.invariant (on-link g c) (at g c)

pub overflow_cast-result : goal.overflow_cast-result
overflow_cast-result g c = let l = less g c in let f = c.facts.ensures.circuits in omega (arith, l, f)

pub overflow_add-result : goal.overflow_add-result
overflow_add-result g c = let l = less g c in let f = c.facts.ensures.circuits in omega (arith, l, f)

pub returns-clause-place : goal.returns-clause-place
returns-clause-place g c =
    let same : c.in_ok-place.place + 1 - 1 ≡ c.in_ok-place.place = omega arith in
    ap Some same ∙ (on-link g c ∙ ap (λ (l : LabNet). place_in (nth l.seen.links c.args.link) c.args.router) c.self.view_is)

pub returns-clause-there : goal.returns-clause-there
returns-clause-there g c =
    let l = less g c in
    to-place (λ (r : Router). IsThere r (c.in_ok-place.place + 1)) (nth c.args.self.now.seen.routers c.args.router) c.index.result.now
    (ap (λ (l : LabNet). nth l.seen.routers c.args.router) (sym c.self.view_is) ∙ at g c) (omega arith, omega (arith, l))
