use Rattle.std.proofs.Common.{◌-◌, ap, arith, refl}
use Rattle.router_desk.specs.Desks.{desk_circuit}
use Rattle.router_core.specs.Machines.{IsFit}
use Rattle.router_core.proofs.ShapeLemmas.{set-keeps, set-all, fit-same}
use Rattle.router_core.proofs.at.second_at.Goals as goal

-- src/at.rt
pub returns-clause-same : goal.returns-clause-same
returns-clause-same c =
    set-keeps desk_circuit c.args.circuits.now.items (c.from.result - 1) c.index_mut.result.now
    c.second.new.self (omega (arith, c.requires, c.from.ensures)) c.index_mut.ensures.value
    (ap desk_circuit c.second.ensures)

-- src/at.rt
pub returns-clause-fit : goal.returns-clause-fit
returns-clause-fit c =
    set-all IsFit c.args.circuits.now.items (c.from.result - 1) c.index_mut.result.now
    c.second.new.self (omega (arith, c.requires, c.from.ensures)) c.index_mut.ensures.value
    (fit-same c.index_mut.result.now c.second.new.self _ c.second.ensures refl refl)
