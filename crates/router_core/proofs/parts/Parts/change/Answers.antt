use Rattle.std.proofs.Common.{◌≡◌, OnOk, sym, subst}
use Rattle.model_router.specs.Steps.{step}
use Rattle.router_desk.specs.declared.config.Change.{Change}
use Rattle.isis_base.specs.Prefixes.{prefix_number}
use Rattle.router_core.specs.Events.{change_of, FitsChange}
use Rattle.router_core.specs.Givens.{given}
use Rattle.router_core.proofs.ChangeLemmas.{metric-change, prefix-change, overload-change}
use Rattle.router_core.proofs.parts.Parts.change.Goals as goal

-- src/changes.rt
pub returns-in-Metric-clause-state : goal.returns-in-Metric-clause-state
returns-in-Metric-clause-state c =
    subst (λ (x : Change). c.set_metric.new.self ≡ (step given c.args.self.now (change_of x)).router) (sym c.in-Metric.is)
    (metric-change c.args.self.now c.set_metric.new.self c.in-Metric.circuit c.in-Metric.metric (subst (λ (x : Change). FitsChange c.args.self.now x) c.in-Metric.is c.requires.fits) c.requires.reached.idle c.set_metric.ensures)

-- src/changes.rt
pub returns-in-Prefix-clause-state : goal.returns-in-Prefix-clause-state
returns-in-Prefix-clause-state c =
    subst (λ (x : Change). OnOk c.set_prefix.result (c.set_prefix.new.self ≡ (step given c.args.self.now (change_of x)).router)) (sym c.in-Prefix.is)
    (prefix-change c.set_prefix.result c.args.self.now c.set_prefix.new.self (prefix_number c.in-Prefix.prefix) c.in-Prefix.metric c.requires.reached.idle c.set_prefix.ensures.ok)

-- src/changes.rt
pub returns-in-Overload-clause-state : goal.returns-in-Overload-clause-state
returns-in-Overload-clause-state c =
    subst (λ (x : Change). c.set_overload.new.self ≡ (step given c.args.self.now (change_of x)).router) (sym c.in-Overload.is)
    (overload-change c.args.self.now c.set_overload.new.self c.in-Overload.on c.requires.reached.idle c.set_overload.ensures)
