use Rattle.std.proofs.Common.{◌-◌, false, [], ap, arith, refl}
use Rattle.model_router.specs.Numbers.{system_number}
use Rattle.router_desk.specs.Desks.{desk_circuit}
use Rattle.router_core.specs.Machines.{IsFit}
use Rattle.router_core.proofs.ShapeLemmas.{set-keeps, set-all, fit-same, bare}
use Rattle.router_core.proofs.at.idle_at.Goals as goal

-- src/at.rt
pub returns-clause-same : goal.returns-clause-same
returns-clause-same c =
    set-keeps desk_circuit c.args.circuits.now.items (c.from.result - 1) c.index_mut.result.now
    c.idle.new.self (omega (arith, c.requires, c.from.ensures)) c.index_mut.ensures.value
    (ap desk_circuit (c.idle.ensures (bare (system_number c.args.system) [] (record { one = false; two = false })) (c.args.circuit - 1)
    (record { system = refl; circuit = omega (arith, c.requires) })))

-- src/at.rt
pub returns-clause-fit : goal.returns-clause-fit
returns-clause-fit c =
    set-all IsFit c.args.circuits.now.items (c.from.result - 1) c.index_mut.result.now
    c.idle.new.self (omega (arith, c.requires, c.from.ensures)) c.index_mut.ensures.value
    (fit-same c.index_mut.result.now c.idle.new.self _ (c.idle.ensures (bare (system_number c.args.system) [] (record { one = false; two = false })) (c.args.circuit - 1)
    (record { system = refl; circuit = omega (arith, c.requires) })) refl refl)
