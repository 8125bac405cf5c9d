use Rattle.std.proofs.Common.{◌≡◌, ◌∙◌, ◌-◌, ℕ, List, ap, sym, subst}
use Rattle.model_router.specs.Maps.{set_at}
use Rattle.model_router.specs.Routers.{Router}
use Rattle.model_router.specs.Steps.{step}
use Rattle.router_desk.specs.declared.config.Change.{Change}
use Rattle.isis_base.specs.Prefixes.{prefix_number}
use Rattle.router_routes.specs.Outlooks.{outlook_of, prefixes_by}
use Rattle.router_core.specs.Events.{change_of}
use Rattle.router_core.specs.Givens.{given}
use Rattle.router_core.proofs.RouteLemmas.{prefix-outlook, metric-outlook, overload-outlook}
use Rattle.router_core.proofs.parts.Parts.told_by_change.Goals as goal

-- src/plan_change.rt
pub returns-in-Ok : goal.returns-in-Ok
returns-in-Ok c _ =
    let r = c.args.self.now in
    let prefix = prefix_number c.in-Prefix.prefix in
    let metric = c.in-Prefix.metric in
    let own = c.in-Ok.ensures ∙ ap (λ (q : Router). set_at q.config.prefixes prefix metric) c.self.view_is in
    subst (λ (change : Change). outlook_of (step given r (change_of change)).router ≡ record (outlook_of r) { prefixes = prefixes_by c.in-Ok.own }) (sym c.in-Prefix.is)
    (prefix-outlook given r prefix metric ∙ ap (λ (l : List (ℕ × ℕ)). record (outlook_of r) { prefixes = prefixes_by l }) (sym own))

-- src/plan_change.rt
pub returns-in-Metric : goal.returns-in-Metric
returns-in-Metric c _ =
    let r = c.args.self.now in
    subst (λ (change : Change). outlook_of (step given r (change_of change)).router ≡ outlook_of r) (sym c.in-Metric.is)
    (metric-outlook given r (c.in-Metric.circuit - 1) c.in-Metric.metric)

-- src/plan_change.rt
pub returns-in-Overload : goal.returns-in-Overload
returns-in-Overload c _ =
    let r = c.args.self.now in
    subst (λ (change : Change). outlook_of (step given r (change_of change)).router ≡ outlook_of r) (sym c.in-Overload.is)
    (overload-outlook given r c.in-Overload.on)
