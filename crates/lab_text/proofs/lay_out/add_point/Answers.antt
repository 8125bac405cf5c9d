use Rattle.std.proofs.Common.{◌≡◌, ℕ, List, length, ap, ◌∙◌, subst}
use Rattle.isis_base.specs.declared.level.CircuitKind.{CircuitKind}
use Rattle.isis_base.specs.declared.level.CircuitKind.TheVariants.{PointToPoint}
use Rattle.network_lab.specs.LabNets.{new_circuit, with_ends}
use Rattle.lab_script.specs.declared.setup.End.{End}
use Rattle.lab_script.specs.LabScripts.{end_routers}
use Rattle.lab_script.specs.LabSound.{HasEnds}
use Rattle.lab_text.proofs.SetupLemmas.{two-routers}
use Rattle.lab_text.proofs.lay_out.add_point.Goals as goal

pub returns-in-Ok : goal.returns-in-Ok
returns-in-Ok c =
    let link = c.args.link.now in
    let same = c.as_slice-ends.ensures in
    let many : length link.ends ≡ 2 = subst (λ (k : CircuitKind). HasEnds k link.ends) c.requires.kind c.requires.next.many in
    let two = two-routers c.as_slice-ends.result.now _ _ (ap (λ (es : List End). length es) same ∙ many) ∙ ap end_routers same in
    c.in-Ok.ensures.ok ∙ ap (λ (rs : List ℕ). with_ends c.args.net.now rs (new_circuit PointToPoint link.metric)) two
