use Rattle.std.proofs.Common.{◌≡◌, ◌-◌, ◌≤◌, true, List, length, IfSome, refl, sym, subst}
use Rattle.model_router.specs.Both.{at}
use Rattle.model_router.specs.HelloTests.{lan_drop}
use Rattle.model_router.specs.Places.{nth}
use Rattle.model_router.specs.Routers.{Circuit, Router}
use Rattle.adjacency.specs.Changes.{IsTested}
use Rattle.router_circuits.specs.Hellos.{hello_of}
use Rattle.router_core.specs.Machines.{machine_of}
use Rattle.router_core.proofs.parts.Parts.test_lan.Goals as goal

-- src/hellos.rt
pub test_lan_at-requires-clause-there : goal.test_lan_at-requires-clause-there
test_lan_at-requires-clause-there c =
    subst (λ (cs : List Circuit). (1 ≤ c.args.circuit) × (c.args.circuit ≤ length cs)) (sym c.deref.ensures.value)
    (subst (λ (r : Router). (1 ≤ c.args.circuit) × (c.args.circuit ≤ length r.circuits)) (sym c.self.view_is) c.requires.there)

-- src/hellos.rt
pub test_lan_at-requires-clause-kind : goal.test_lan_at-requires-clause-kind
test_lan_at-requires-clause-kind c =
    subst (λ (cs : List Circuit). IfSome (nth cs (c.args.circuit - 1)) (λ x. x.lan ≡ true)) (sym c.deref.ensures.value)
    (subst (λ (r : Router). IfSome (nth r.circuits (c.args.circuit - 1)) (λ x. x.lan ≡ true)) (sym c.self.view_is) c.requires.kind)

-- src/hellos.rt
pub returns : goal.returns
returns c =
    subst (λ (r : Router). IfSome (nth r.circuits (c.args.circuit - 1)) (λ x. IsTested c.test_lan_at.result (lan_drop r.config c.args.level x.boots (at x.levels c.args.level).heard (hello_of c.args.hello.now)))) c.self.view_is
    (subst (λ (cs : List Circuit). IfSome (nth cs (c.args.circuit - 1)) (λ x. IsTested c.test_lan_at.result (lan_drop (machine_of c.self.inside).config c.args.level x.boots (at x.levels c.args.level).heard (hello_of c.args.hello.now)))) c.deref.ensures.value
    (c.test_lan_at.ensures (machine_of c.self.inside).config
    (c.own_of-own.ensures.own (machine_of c.self.inside).config refl (sym c.as_slice.ensures) refl)))
