use Rattle.std.proofs.Common.{◌≡◌, ◌-◌, ◌∙◌, Some, None, IfSome, refl, sym, subst}
use Rattle.adjacency.specs.Changes.{drop_name}
use Rattle.model_router.specs.Adjacencies.{Hello}
use Rattle.model_router.specs.Both.{at}
use Rattle.model_router.specs.Events as model
use Rattle.model_router.specs.HelloTests.{lan_drop}
use Rattle.model_router.specs.Places.{nth}
use Rattle.model_router.specs.Steps.{step}
use Rattle.router_circuits.specs.Hellos.{hello_of}
use Rattle.router_desk.specs.Heard.{hello_heard}
use Rattle.router_core.specs.Givens.{given}
use Rattle.router_core.specs.Plans.{IsHelloReady}
use Rattle.router_core.proofs.HelloLemmas.{hello-reply}
use Rattle.router_core.proofs.parts.Parts.plan_lan_hello.Goals as goal

-- src/plan_hello.rt
pub returns-in-Ok : goal.returns-in-Ok
returns-in-Ok c asked =
    let r = c.args.self.now in
    let place = c.args.circuit - 1 in
    let h = hello_heard c.args.hello.now in
    let m = model.LanHelloHeard c.args.level h in
    let event = model.Take place m in
    let t = (step given r event).router in
    let words : hello_of c.fields-fields.result ≡ h = sym c.hello_sizes.ensures.same ∙ c.fields-fields.ensures in
    let ready : IsHelloReady r c.args.circuit m = record {
      there = c.requires.there;
      kind = c.requires.kind;
      passes = subst (λ (x : Hello). IfSome (nth r.circuits place) (λ y. lan_drop r.config c.args.level y.boots (at y.levels c.args.level).heard x ≡ None)) words c.in-Ok.ensures;
      reached = c.requires.reached;
    } in
    record {
      ready = ready;
      state = refl;
      reply = hello-reply r c.args.circuit m ready t (λ x. refl);
      told = λ _. c.outlook_laws.ensures.calm r event c.requires.reached tt;
      marks = c.none.ensures t;
    }

-- src/plan_hello.rt
pub returns-in-Err : goal.returns-in-Err
returns-in-Err c asked =
    let r = c.args.self.now in
    let place = c.args.circuit - 1 in
    let h = hello_heard c.args.hello.now in
    let words : hello_of c.fields-fields.result ≡ h = sym c.hello_sizes.ensures.same ∙ c.fields-fields.ensures in
    c.plan_drop.ensures asked c.args.circuit (model.LanHelloHeard c.args.level h) c.requires.there
    (subst (λ (x : Hello). IfSome (nth r.circuits place) (λ y. lan_drop r.config c.args.level y.boots (at y.levels c.args.level).heard x ≡ Some (drop_name c.in-Err.refused))) words c.in-Err.ensures)
