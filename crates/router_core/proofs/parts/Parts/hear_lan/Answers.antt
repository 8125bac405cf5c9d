use Rattle.std.proofs.Common.{◌-◌, IfOk, IfSome, refl, sym, subst, length, ap, arith}
use Rattle.model_router.specs.Adjacencies.{common_of}
use Rattle.model_router.specs.Both.{alone, at}
use Rattle.model_router.specs.Places.{nth}
use Rattle.std.proofs.lemmas.Result.{IfOk-weaker}
use Rattle.model_router.specs.Hellos.{lan_circuit}
use Rattle.model_router.specs.HelloTests.{lan_drop}
use Rattle.model_router.specs.Routers.{Router}
use Rattle.adjacency.specs.Changes.{IsTested}
use Rattle.router_circuits.specs.Hellos.{hello_of}
use Rattle.router_core.specs.Machines.{machine_of}
use Rattle.router_core.proofs.ShapeLemmas.{lan-set}
use Rattle.router_core.proofs.SecondLemmas.{same-count}
use Rattle.router_core.proofs.parts.Parts.hear_lan.Goals as goal

-- src/hellos.rt
pub returns-clause-tested : goal.returns-clause-tested
returns-clause-tested c =
    subst (λ (r : Router). IfOk c.hear_lan_at.result (λ heard. IfSome (nth r.circuits (c.args.circuit - 1)) (λ x. IsTested heard
    (lan_drop r.config c.args.level x.boots (at x.levels c.args.level).heard (hello_of c.args.hello.now))))) c.self.view_is
    (c.hear_lan_at.ensures.tested (machine_of c.self.inside).config
    (c.own_of-own.ensures.own (machine_of c.self.inside).config refl (sym c.as_slice.ensures) refl))

-- src/hellos.rt
pub returns-clause-state : goal.returns-clause-state
returns-clause-state c =
    IfOk-weaker c.hear_lan_at.result _ _ (λ heard h. lan-set heard (λ config x. lan_circuit x c.args.level (alone c.args.level (common_of config (hello_of c.args.hello.now))) (hello_of c.args.hello.now))
    (c.args.circuit - 1) c.hear_lan_at.new.circuits.items (machine_of c.self.inside) c.args.self.now c.self.view_is h)
    (c.hear_lan_at.ensures.state (machine_of c.self.inside).config
    (c.own_of-own.ensures.own (machine_of c.self.inside).config refl (sym c.as_slice.ensures) refl))

-- src/hellos.rt
pub returns-clause-there : goal.returns-clause-there
returns-clause-there c =
    let same = same-count c.hear_lan_at.new.circuits.items (machine_of c.self.inside).circuits c.hear_lan_at.ensures.same in
    let before = ap (λ (r : Router). length r.circuits) c.self.view_is in
    (c.requires.there.0, omega (arith, c.requires.there, same, before))
