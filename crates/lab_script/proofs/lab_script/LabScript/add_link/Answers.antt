use Rattle.std.proofs.Common.{◌≡◌, ◌∙◌, ℕ, ◌<◌, List, false, length, sym, subst, ap, arith}
use Rattle.std.specs.List.{AllByRecursion}
use Rattle.lab_script.specs.declared.setup.LabLink.{LabLink}
use Rattle.lab_script.specs.LabJudged.{is_some_full}
use Rattle.lab_script.specs.LabScripts.{LabScript, link_between}
use Rattle.lab_script.specs.LabSound.{IsSoundLab}
use Rattle.lab_script.proofs.LabLemmas.{IsSoundLab-link, early, laid-next, room-next}
use Rattle.lab_script.proofs.lab_script.LabScript.add_link.Goals as goal

pub invariant_of-self-2 : goal.invariant_of-self-2
invariant_of-self-2 c =
    let inside = c.self.inside in
    let script : LabScript = record { routers = inside.routers; links = inside.links; keys = inside.keys.items; lines = inside.lines.items } in
    let routers = c.args.routers.now in
    let link = link_between inside.links c.args.name c.args.kind routers c.args.metric in
    let none = ap (λ (s : LabScript). s.lines) c.self.view_is ∙ early c.args.self.now c.requires.early in
    let room : is_some_full inside.links routers ≡ false = ap (λ (s : LabScript). is_some_full s.links routers) c.self.view_is ∙ sym c.is_some_full.ensures ∙ c.if-is_some_full.false in
    let there = subst (λ (n : ℕ). AllByRecursion (λ router. router < n) routers) (sym (ap (λ (s : LabScript). length s.routers) c.self.view_is)) c.requires.there in
    subst (λ (links : List LabLink). IsSoundLab (record script { links = links })) (sym c.in_ok-add.ensures.ok)
    (IsSoundLab-link script link c.self.invariant (omega (arith, c.count.ensures, c.if-count-ge-LINK_LIMIT.false))
    (laid-next (length script.routers) inside.links c.args.name c.args.kind routers c.args.metric c.requires.many there (sym c.has_twice.ensures ∙ c.if-has_twice.false) c.requires.metric)
    (room-next inside.links routers room) none)
