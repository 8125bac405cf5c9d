use Rattle.std.proofs.Common.{◌≡◌, ℕ, ◌≤◌, List, length, map, ap, sym, ◌∙◌, subst, arith}
use Rattle.std.proofs.lemmas.Result.{IfOk-at_ok}
use Rattle.std.specs.List.{AllByRecursion}
use Rattle.model_router.specs.Routers.{Circuit}
use Rattle.router_desk.specs.Configs.{config_of, circuit_of, circuits_of, prefixes_of}
use Rattle.router_desk.specs.Desks.{DeskView, desk_circuit}
use Rattle.router_core.specs.Machines.{IsFit}
use Rattle.router_core.proofs.StartLemmas.{start-same, config-fits, length-mapped, started-is, same-points}
use Rattle.router_core.proofs.parts.Parts.new.Goals as goal

-- src/making.rt
pub invariant_of-result : goal.invariant_of-result
invariant_of-result c =
    let configs = c.args.config.now.circuits in
    let made = c.in-Ok.ensures in
    let own = IfOk-at_ok _ made.0 c.both-own.ensures in
    let levels = IfOk-at_ok _ made.1 c.both-levels.ensures in
    let desk-areas = IfOk-at_ok _ own.0 c.both.ensures in
    let items : c.in_ok-circuits.circuits.items ≡ map circuit_of configs = c.in_ok-circuits.ensures ∙ ap (map circuit_of) c.as_slice.ensures in
    record {
      desk = ap (λ (d : DeskView). d.circuits) (IfOk-at_ok _ desk-areas.0 c.new.ensures) ∙ ap (map desk_circuit) (sym items);
      few = let count = ap length items ∙ length-mapped circuit_of configs in omega (arith, count, c.requires.valid.few_circuits);
      fit = subst (λ (xs : List Circuit). AllByRecursion IsFit xs) (sym items) (config-fits configs c.requires.valid.circuits);
      areas = subst (λ (xs : List (List ℕ)). length xs ≤ 3) (sym (IfOk-at_ok _ desk-areas.1 c.copy.ensures)) c.requires.valid.areas;
      one = IfOk-at_ok _ levels.0 c.level_of.ensures.circuits ∙ ap length c.deref.ensures.value;
      two = IfOk-at_ok _ levels.1 c.level_of-2.ensures.circuits ∙ ap length c.deref-2.ensures.value;
    }

-- src/making.rt
pub returns-in-Ok : goal.returns-in-Ok
returns-in-Ok c =
    let config = c.args.config.now in
    let made = c.in-Ok.ensures in
    let own = IfOk-at_ok _ made.0 c.both-own.ensures in
    let levels = IfOk-at_ok _ made.1 c.both-levels.ensures in
    let desk-areas = IfOk-at_ok _ own.0 c.both.ensures in
    let desk = IfOk-at_ok _ desk-areas.0 c.new.ensures in
    let items : c.in_ok-circuits.circuits.items ≡ map circuit_of config.circuits = c.in_ok-circuits.ensures ∙ ap (map circuit_of) c.as_slice.ensures in
    started-is (config_of config) c.args.boot (circuits_of config) _ _ _ _ _ c.in_ok-circuits.circuits.items _ _
    (ap (λ (d : DeskView). d.system) desk) (IfOk-at_ok _ desk-areas.1 c.copy.ensures) (ap (λ (d : DeskView). d.runs) desk) (IfOk-at_ok _ own.1 c.of-prefixes.ensures ∙ ap prefixes_of c.as_slice-2.ensures) (ap (λ (d : DeskView). d.keys) desk)
    (items ∙ sym (start-same config.circuits))
    (IfOk-at_ok _ levels.0 c.level_of.ensures.state ∙ same-points 0 config.circuits c.deref.result.now (c.deref.ensures.value ∙ items))
    (IfOk-at_ok _ levels.1 c.level_of-2.ensures.state ∙ same-points 0 config.circuits c.deref-2.result.now (c.deref-2.ensures.value ∙ items))
