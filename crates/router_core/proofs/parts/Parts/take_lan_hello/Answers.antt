use Rattle.std.proofs.Common.{◌≡◌, ◌-◌, ◌∙◌, None, IfSome, sym, subst}
use Rattle.model_router.specs.Adjacencies.{Hello}
use Rattle.model_router.specs.Both.{at}
use Rattle.model_router.specs.Events as model
use Rattle.model_router.specs.HelloTests.{lan_drop}
use Rattle.model_router.specs.Hellos.{take_lan}
use Rattle.model_router.specs.Places.{nth}
use Rattle.router_circuits.specs.Hellos.{hello_of}
use Rattle.router_desk.specs.Heard.{hello_heard}
use Rattle.router_core.proofs.HelloLemmas.{hello-state, on-ok}
use Rattle.router_core.proofs.parts.Parts.take_lan_hello.Goals as goal

-- src/taking.rt
pub take_lan-requires-clause-passes : goal.take_lan-requires-clause-passes
take_lan-requires-clause-passes c =
    let r = c.args.self.now in
    let place = c.args.circuit - 1 in
    let words : hello_of c.fields-fields.result ≡ hello_heard c.args.hello.now = sym c.hello_sizes.ensures.same ∙ c.fields-fields.ensures in
    subst (λ (x : Hello). IfSome (nth r.circuits place) (λ y. lan_drop r.config c.args.level y.boots (at y.levels c.args.level).heard x ≡ None)) (sym words) c.requires.passes

-- src/taking.rt
pub returns-clause-state : goal.returns-clause-state
returns-clause-state c =
    let r = c.args.self.now in
    let place = c.args.circuit - 1 in
    let h = hello_heard c.args.hello.now in
    let words : hello_of c.fields-fields.result ≡ h = sym c.hello_sizes.ensures.same ∙ c.fields-fields.ensures in
    on-ok c.take_lan.result _ _ (λ done. hello-state r c.args.circuit (model.LanHelloHeard c.args.level h) c.requires c.take_lan.new.self
    (subst (λ (x : Hello). IfSome (nth r.circuits place) (λ y. c.take_lan.new.self ≡ (model.settled (record { router = take_lan r place y c.args.level x; reply = model.Done })).router)) words done))
    c.take_lan.ensures.state
