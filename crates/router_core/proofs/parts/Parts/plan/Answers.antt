use Rattle.std.proofs.Common.{◌≡◌, ◌-◌, Bool, Some, is_some, IfOk, refl, sym, subst}
use Rattle.model_router.specs.Events as model
use Rattle.model_router.specs.Places.{nth}
use Rattle.model_router.specs.Receiving.{drop_of}
use Rattle.router_desk.specs.Causes.{name_of}
use Rattle.router_core.specs.declared.read.Read.{Read}
use Rattle.router_core.specs.Events.{change_of}
use Rattle.router_core.specs.Plans.{IsPlan}
use Rattle.router_core.specs.Reads.{event_in, FitsRead}
use Rattle.router_core.proofs.IdleLemmas.{each-some}
use Rattle.router_core.proofs.parts.Parts.plan.Goals as goal

-- src/plan.rt
pub returns-in-Second : goal.returns-in-Second
returns-in-Second c = subst (λ (x : Read). IfOk c.plan_second.result (IsPlan (is_some c.args.following) c.args.self.now (event_in x))) (sym c.in-Second.is) c.plan_second.ensures

-- src/plan.rt
pub returns-in-Pull : goal.returns-in-Pull
returns-in-Pull c = subst (λ (x : Read). IfOk c.plan_pull.result (IsPlan (is_some c.args.following) c.args.self.now (event_in x))) (sym c.in-Pull.is) (c.plan_pull.ensures (is_some c.args.following))

-- src/plan.rt
pub returns-in-Change : goal.returns-in-Change
returns-in-Change c =
    subst (λ (x : Read). IfOk c.plan_change.result (IsPlan (is_some c.args.following) c.args.self.now (event_in x))) (sym c.in-Change.is)
    (subst (λ (asked : Bool). IfOk c.plan_change.result (IsPlan asked c.args.self.now (change_of c.in-Change.change))) c.is_some.ensures c.plan_change.ensures)

-- src/plan.rt
pub returns-in-Heard : goal.returns-in-Heard
returns-in-Heard c = subst (λ (x : Read). IfOk c.plan_heard.result (IsPlan (is_some c.args.following) c.args.self.now (event_in x))) (sym c.in-Heard.is) c.plan_heard.ensures

-- src/plan.rt
pub returns-in-Refused : goal.returns-in-Refused
returns-in-Refused c =
    let r = c.args.self.now in
    let circuit = c.in-Refused.circuit in
    let m = model.Refused (name_of c.in-Refused.cause) in
    subst (λ (x : Read). IsPlan (is_some c.args.following) r (event_in x) c.plan_drop.result) (sym c.in-Refused.is)
    (c.plan_drop.ensures (is_some c.args.following) circuit m (subst (FitsRead r) c.in-Refused.is c.requires.fits)
    (each-some (nth r.circuits (circuit - 1)) (λ x. drop_of r (circuit - 1) x m ≡ Some (name_of c.in-Refused.cause)) (λ x e. refl)))
