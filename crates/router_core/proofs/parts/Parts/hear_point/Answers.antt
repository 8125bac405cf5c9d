use Rattle.std.proofs.Common.{◌≡◌, ℕ, ◌-◌, ◌+◌, ◌*◌, not, IfOk, IfSome, refl, sym, subst, ◌∙◌, arith, length, ap}
use Rattle.model_router.specs.Adjacencies.{common_of, is_same}
use Rattle.std.proofs.lemmas.Result.{IfOk-weaker}
use Rattle.model_router.specs.Hellos.{point_circuit}
use Rattle.model_router.specs.Places.{nth}
use Rattle.model_router.specs.HelloTests.{point_drop}
use Rattle.model_router.specs.Routers.{Router, extended_of}
use Rattle.adjacency.specs.Changes.{IsTested}
use Rattle.router_circuits.specs.Hellos.{hello_of}
use Rattle.router_core.specs.Machines.{machine_of}
use Rattle.router_core.proofs.ShapeLemmas.{point-set}
use Rattle.router_core.proofs.SecondLemmas.{same-count}
use Rattle.router_core.proofs.parts.Parts.hear_point.Goals as goal

-- src/hellos.rt
pub returns-clause-tested : goal.returns-clause-tested
returns-clause-tested c =
    subst (λ (r : Router). IfOk c.hear_point_at.result (λ heard. IfSome (nth r.circuits (c.args.circuit - 1)) (λ x. IsTested heard (point_drop r.config (extended_of r.boot (c.args.circuit - 1)) x.boots (hello_of c.args.hello.now))))) c.self.view_is
    (subst (λ (id : ℕ). IfOk c.hear_point_at.result (λ heard. IfSome (nth (machine_of c.self.inside).circuits (c.args.circuit - 1)) (λ x. IsTested heard (point_drop (machine_of c.self.inside).config id x.boots (hello_of c.args.hello.now)))))
    (c.own_of-own.ensures.id ∙ number)
    (c.hear_point_at.ensures.tested (machine_of c.self.inside).config
    (c.own_of-own.ensures.own (machine_of c.self.inside).config refl (sym c.as_slice.ensures) refl)))
  where
    number : 256 * c.self.inside.boot + c.args.circuit ≡ extended_of c.self.inside.boot (c.args.circuit - 1)
    number = omega (arith, c.requires.there)

-- src/hellos.rt
pub returns-clause-state : goal.returns-clause-state
returns-clause-state c =
    IfOk-weaker c.hear_point_at.result _ _ (λ heard h. point-set heard (hello_of c.args.hello.now).handshake
    (λ config x shake. point_circuit x (common_of config (hello_of c.args.hello.now)) (hello_of c.args.hello.now) shake)
    (λ config x shake. not (is_same x.point.neighbour (common_of config (hello_of c.args.hello.now)) (hello_of c.args.hello.now) shake.extended))
    (c.args.circuit - 1) c.hear_point_at.new.circuits.items (machine_of c.self.inside) c.args.self.now c.self.view_is h)
    (c.hear_point_at.ensures.state (machine_of c.self.inside).config
    (c.own_of-own.ensures.own (machine_of c.self.inside).config refl (sym c.as_slice.ensures) refl))

-- src/hellos.rt
pub returns-clause-there : goal.returns-clause-there
returns-clause-there c =
    let same = same-count c.hear_point_at.new.circuits.items (machine_of c.self.inside).circuits c.hear_point_at.ensures.same in
    let before = ap (λ (r : Router). length r.circuits) c.self.view_is in
    (c.requires.there.0, omega (arith, c.requires.there, same, before))
