use Rattle.std.proofs.Common.{◌∙◌, List, sym, subst, ap, arith}
use Rattle.lab_script.specs.declared.setup.LabRouter.{LabRouter}
use Rattle.lab_script.specs.LabScripts.{LabScript}
use Rattle.lab_script.specs.LabSound.{IsSoundLab}
use Rattle.lab_script.proofs.LabLemmas.{IsSoundLab-router, early}
use Rattle.lab_script.proofs.lab_script.LabScript.hear_router.Goals as goal

pub invariant_of-self-2 : goal.invariant_of-self-2
invariant_of-self-2 c =
    let inside = c.self.inside in
    let script : LabScript = record { routers = inside.routers; links = inside.links; keys = inside.keys.items; lines = inside.lines.items } in
    let none = ap (λ (s : LabScript). s.lines) c.self.view_is ∙ early c.args.self.now (sym c.has_begun.ensures ∙ c.if-has_begun.false) in
    subst (λ (routers : List LabRouter). IsSoundLab (record script { routers = routers })) (sym c.in_ok-add.ensures.ok)
    (IsSoundLab-router script c.args.router c.self.invariant (omega (arith, c.count.ensures, c.if-count-ge-ROUTER_LIMIT.false)) c.requires (sym c.has_system.ensures ∙ c.if-has_system.false) none)
