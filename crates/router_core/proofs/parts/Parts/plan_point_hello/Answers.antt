use Rattle.std.proofs.Common.{◌≡◌, ◌-◌, ◌∙◌, true, Some, None, IfSome, refl, sym, subst}
use Rattle.adjacency.specs.Changes.{drop_name}
use Rattle.model_router.specs.Adjacencies.{Hello}
use Rattle.model_router.specs.Events as model
use Rattle.model_router.specs.HelloTests.{point_drop}
use Rattle.model_router.specs.Places.{nth}
use Rattle.model_router.specs.Routers.{extended_of}
use Rattle.model_router.specs.Steps.{step}
use Rattle.router_circuits.specs.Hellos.{hello_of}
use Rattle.router_desk.specs.Heard.{hello_heard}
use Rattle.router_core.specs.Givens.{given}
use Rattle.router_core.specs.Plans.{IsHelloReady}
use Rattle.router_core.specs.Settled.{LeavesFace}
use Rattle.router_core.proofs.HelloLemmas.{hello-marks, hello-reply, some-of}
use Rattle.router_core.proofs.parts.Parts.plan_point_hello.Goals as goal

-- src/plan_hello.rt
pub returns-in-Ok : goal.returns-in-Ok
returns-in-Ok c asked =
    let r = c.args.self.now in
    let place = c.args.circuit - 1 in
    let h = hello_heard c.args.hello.now in
    let m = model.PointHelloHeard h in
    let event = model.Take place m in
    let t = (step given r event).router in
    let words : hello_of c.fields-fields.result ≡ h = sym c.hello_sizes.ensures.same ∙ c.fields-fields.ensures in
    let ready : IsHelloReady r c.args.circuit m = record {
      there = c.requires.there;
      kind = c.requires.kind;
      passes = subst (λ (x : Hello). IfSome (nth r.circuits place) (λ y. point_drop r.config (extended_of r.boot place) y.boots x ≡ None)) words c.in-Ok.ensures.tested;
      reached = c.requires.reached;
    } in
    let stays = c.outlook_laws.ensures.calm r event c.requires.reached tt in
    record {
      ready = ready;
      state = refl;
      reply = hello-reply r c.args.circuit m ready t (λ x. refl);
      told = λ _. stays;
      marks = c.or.ensures t (λ e. hello-marks r c.args.circuit h c.args.marks ready
          (some-of (nth r.circuits place) (λ x. c.in-Ok.alike ≡ true → LeavesFace x r.config h) (λ x. LeavesFace x r.config h) (λ x f. f e)
          (subst (λ (y : Hello). IfSome (nth r.circuits place) (λ x. c.in-Ok.alike ≡ true → LeavesFace x r.config y)) words c.in-Ok.ensures.alike))
          stays c.requires.marks)
          (c.none.ensures t);
    }

-- src/plan_hello.rt
pub returns-in-Err : goal.returns-in-Err
returns-in-Err c asked =
    let r = c.args.self.now in
    let place = c.args.circuit - 1 in
    let h = hello_heard c.args.hello.now in
    let words : hello_of c.fields-fields.result ≡ h = sym c.hello_sizes.ensures.same ∙ c.fields-fields.ensures in
    c.plan_drop.ensures asked c.args.circuit (model.PointHelloHeard h) c.requires.there
    (subst (λ (x : Hello). IfSome (nth r.circuits place) (λ y. point_drop r.config (extended_of r.boot place) y.boots x ≡ Some (drop_name c.in-Err.refused))) words c.in-Err.ensures.tested)
