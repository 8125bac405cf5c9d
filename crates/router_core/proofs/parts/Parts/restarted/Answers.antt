use Rattle.std.proofs.Common.{ℕ, ◌≤◌, List, length, map, ap, sym, ◌∙◌, subst, arith}
use Rattle.std.proofs.lemmas.Result.{IfOk-at_ok}
use Rattle.std.specs.List.{AllByRecursion}
use Rattle.model_router.specs.Routers.{Circuit}
use Rattle.model_router.specs.Starts.{started}
use Rattle.router_desk.specs.Desks.{DeskView, desk_circuit}
use Rattle.router_core.specs.Machines.{IsFit}
use Rattle.router_core.proofs.StartLemmas.{started-fit, started-desk, length-mapped}
use Rattle.router_core.proofs.parts.Parts.restarted.Goals as goal

-- src/making.rt
pub invariant_of-result : goal.invariant_of-result
invariant_of-result c =
    let old = c.self.inside.circuits.items in
    let made = c.in-Ok.ensures in
    let own = IfOk-at_ok _ made.0 c.both-own.ensures in
    let parts = IfOk-at_ok _ made.1 c.both-parts.ensures in
    let levels = IfOk-at_ok _ parts.1 c.both-levels.ensures in
    let desk-areas = IfOk-at_ok _ own.0 c.both.ensures in
    let items = IfOk-at_ok _ parts.0 c.fresh_circuits.ensures ∙ ap (map started) c.deref-3.ensures.value in
    let count = ap length items ∙ length-mapped started old in
    record {
      desk = ap (λ (d : DeskView). d.circuits) (IfOk-at_ok _ desk-areas.0 c.copy.ensures) ∙ (c.self.invariant.desk ∙ (sym (started-desk old) ∙ ap (map desk_circuit) (sym items)));
      few = omega (arith, count, c.self.invariant.few);
      fit = subst (λ (xs : List Circuit). AllByRecursion IsFit xs) (sym items) (started-fit old c.self.invariant.fit);
      areas = subst (λ (xs : List (List ℕ)). length xs ≤ 3) (sym (IfOk-at_ok _ desk-areas.1 c.copy-2.ensures)) c.self.invariant.areas;
      one = IfOk-at_ok _ levels.0 c.level_of.ensures.circuits ∙ (ap length c.deref.ensures.value ∙ sym count);
      two = IfOk-at_ok _ levels.1 c.level_of-2.ensures.circuits ∙ (ap length c.deref-2.ensures.value ∙ sym count);
    }
