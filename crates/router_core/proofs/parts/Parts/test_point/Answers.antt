use Rattle.std.proofs.Common.{◌≡◌, ℕ, ◌-◌, ◌+◌, ◌*◌, ◌≤◌, true, false, List, length, IfOk, IfSome, refl, sym, subst, ◌∙◌, arith}
use Rattle.model_router.specs.HelloTests.{point_drop}
use Rattle.model_router.specs.Places.{nth}
use Rattle.model_router.specs.Routers.{Circuit, Router, extended_of}
use Rattle.adjacency.specs.Changes.{IsTested}
use Rattle.router_circuits.specs.Hellos.{hello_of}
use Rattle.router_core.specs.Machines.{machine_of}
use Rattle.router_core.specs.Settled.{LeavesFace}
use Rattle.router_core.proofs.parts.Parts.test_point.Goals as goal

-- src/hellos.rt
pub test_point_at-requires-clause-there : goal.test_point_at-requires-clause-there
test_point_at-requires-clause-there c =
    subst (λ (cs : List Circuit). (1 ≤ c.args.circuit) × (c.args.circuit ≤ length cs)) (sym c.deref.ensures.value)
    (subst (λ (r : Router). (1 ≤ c.args.circuit) × (c.args.circuit ≤ length r.circuits)) (sym c.self.view_is) c.requires.there)

-- src/hellos.rt
pub test_point_at-requires-clause-kind : goal.test_point_at-requires-clause-kind
test_point_at-requires-clause-kind c =
    subst (λ (cs : List Circuit). IfSome (nth cs (c.args.circuit - 1)) (λ x. x.lan ≡ false)) (sym c.deref.ensures.value)
    (subst (λ (r : Router). IfSome (nth r.circuits (c.args.circuit - 1)) (λ x. x.lan ≡ false)) (sym c.self.view_is) c.requires.kind)

-- src/hellos.rt
pub returns-clause-tested : goal.returns-clause-tested
returns-clause-tested c =
    subst (λ (r : Router). IfSome (nth r.circuits (c.args.circuit - 1)) (λ x. IsTested c.test_point_at.result (point_drop r.config (extended_of r.boot (c.args.circuit - 1)) x.boots (hello_of c.args.hello.now)))) c.self.view_is
    (subst (λ (id : ℕ). IfSome (nth (machine_of c.self.inside).circuits (c.args.circuit - 1)) (λ x. IsTested c.test_point_at.result (point_drop (machine_of c.self.inside).config id x.boots (hello_of c.args.hello.now))))
    (c.own_of-own.ensures.id ∙ number)
    (subst (λ (cs : List Circuit). IfSome (nth cs (c.args.circuit - 1)) (λ x. IsTested c.test_point_at.result (point_drop (machine_of c.self.inside).config c.own_of-own.result.id x.boots (hello_of c.args.hello.now)))) c.deref.ensures.value
    (c.test_point_at.ensures.tested (machine_of c.self.inside).config
    (c.own_of-own.ensures.own (machine_of c.self.inside).config refl (sym c.as_slice.ensures) refl))))
  where
    number : 256 * c.self.inside.boot + c.args.circuit ≡ extended_of c.self.inside.boot (c.args.circuit - 1)
    number = omega (arith, c.requires.there)

-- src/hellos.rt
pub returns-clause-alike : goal.returns-clause-alike
returns-clause-alike c =
    subst (λ (r : Router). IfSome (nth r.circuits (c.args.circuit - 1)) (λ x. IfOk c.test_point_at.result (λ alike. alike ≡ true → LeavesFace x r.config (hello_of c.args.hello.now)))) c.self.view_is
    (subst (λ (cs : List Circuit). IfSome (nth cs (c.args.circuit - 1)) (λ x. IfOk c.test_point_at.result (λ alike. alike ≡ true → LeavesFace x (machine_of c.self.inside).config (hello_of c.args.hello.now)))) c.deref.ensures.value
    (c.test_point_at.ensures.alike (machine_of c.self.inside).config
    (c.own_of-own.ensures.own (machine_of c.self.inside).config refl (sym c.as_slice.ensures) refl)))
