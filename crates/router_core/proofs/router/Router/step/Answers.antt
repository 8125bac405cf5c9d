use Rattle.std.proofs.Common.{Bool, is_some, sym, subst}
use Rattle.model_router.specs.Events.{Event}
use Rattle.model_router.specs.Routers.{Router}
use Rattle.router_core.specs.Events.{event_of, Fits}
use Rattle.router_core.specs.Plans.{IsPlan, IsSound}
use Rattle.router_core.proofs.KeepingLemmas.{lent-all, lent-some}
use Rattle.router_core.proofs.PlanLemmas.{sound-of}
use Rattle.router_core.proofs.router.Router.step.Goals as goal

-- src/router.rt
pub plan-requires-clause-following : goal.plan-requires-clause-following
plan-requires-clause-following g c = lent-all _ c.following.result _ c.following.ensures c.self.invariant.following

-- src/router.rt
pub done-requires-clause-sound : goal.done-requires-clause-sound
done-requires-clause-sound g c =
    let m = c.self.inside.parts in
    let event = event_of m c.args.event in
    let asked = is_some c.following.result in
    let plan : IsPlan asked m event c.in_ok-plan.plan = subst (λ (e : Event). IsPlan asked m e c.in_ok-plan.plan) c.in_ok-read.ensures.says c.in_ok-plan.ensures in
    let fits = subst (λ (r : Router). Fits r c.args.event) (sym c.self.view_is) c.requires in
    subst (λ (b : Bool). IsSound b m c.in_ok-plan.plan) (lent-some c.following.result _ c.following.ensures)
    (sound-of asked m event c.in_ok-plan.plan plan (c.reached_laws.ensures.step m c.args.event c.self.invariant.reached fits c.event_octets.ensures))
