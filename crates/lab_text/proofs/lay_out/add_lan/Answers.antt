use Rattle.std.proofs.Common.{ℕ, List, sym, ap, ◌∙◌, subst}
use Rattle.std.specs.List.{AllByRecursion}
use Rattle.isis_base.specs.declared.level.CircuitKind.TheVariants.{Lan}
use Rattle.network_lab.specs.LabNets.{new_circuit, with_ends}
use Rattle.lab_script.specs.declared.setup.End.{End}
use Rattle.lab_script.specs.LabScripts.{end_routers}
use Rattle.lab_text.specs.Setups.{HasEnd}
use Rattle.lab_text.proofs.SetupLemmas.{laid-ends, laid-begun}
use Rattle.lab_text.proofs.lay_out.add_lan.Goals as goal

pub set_priorities-requires-clause-there : goal.set_priorities-requires-clause-there
set_priorities-requires-clause-there c =
    let link = c.args.link.now in
    let members = c.as_slice.ensures.value ∙ c.in_ok-members.ensures ∙ ap end_routers c.as_slice-ends.ensures in
    let laid = c.in-Ok.ensures.ok ∙ ap (λ (ns : List ℕ). with_ends c.args.net.now ns (new_circuit Lan link.metric)) members in
    subst (λ (ends : List End). AllByRecursion (λ e. HasEnd c.add_lan.new.self e) ends) (sym c.as_slice-ends.ensures)
    (laid-ends c.args.net.now c.add_lan.new.self link (new_circuit Lan link.metric) c.requires.next laid)

pub set_priorities-requires-clause-early : goal.set_priorities-requires-clause-early
set_priorities-requires-clause-early c =
    laid-begun c.args.net.now c.add_lan.new.self c.as_slice.result.now (new_circuit Lan c.args.link.now.metric) c.in-Ok.ensures.ok c.requires.early
