use Rattle.std.proofs.Common.{◌-◌, ap, arith, subst, sym}
use Rattle.router_desk.specs.Desks.{desk_circuit}
use Rattle.router_core.specs.Machines.{IsFit}
use Rattle.router_core.proofs.ShapeLemmas.{set-keeps, set-all}
use Rattle.router_core.proofs.at.set_metric_at.Goals as goal

-- src/at.rt
pub returns-clause-same : goal.returns-clause-same
returns-clause-same c =
    set-keeps desk_circuit c.args.circuits.now.items (c.from.result - 1) c.index_mut.result.now
    c.set_metric.new.self (omega (arith, c.requires.there, c.from.ensures)) c.index_mut.ensures.value
    (ap desk_circuit c.set_metric.ensures)

-- src/at.rt
pub returns-clause-fit : goal.returns-clause-fit
returns-clause-fit c =
    set-all IsFit c.args.circuits.now.items (c.from.result - 1) c.index_mut.result.now
    c.set_metric.new.self (omega (arith, c.requires.there, c.from.ensures)) c.index_mut.ensures.value
    (λ fit. subst IsFit (sym c.set_metric.ensures) (record { metric = c.requires.metric; priority = fit.priority }))
