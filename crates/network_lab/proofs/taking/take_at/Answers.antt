use Rattle.std.proofs.Common.{List, IfSome, sym, ap, ◌∙◌, subst}
use Rattle.model_router.specs.Places.{nth}
use Rattle.model_router.specs.Routers.{Router}
use Rattle.model_network.specs.Runs.{boot_of}
use Rattle.lab_facts.specs.Seen.{AreEnough}
use Rattle.network_lab.specs.LabTakings.{counts_at}
use Rattle.network_lab.proofs.NotedLemmas.{levels-enough}
use Rattle.network_lab.proofs.StepLemmas.{take-sends, take-stops, keeps-there, take-keeps}
use Rattle.network_lab.proofs.taking.take_at.Goals as goal

pub note-requires : goal.note-requires
note-requires g c =
    subst (λ (rs : List Router). IfSome (nth rs c.args.router) (λ r. AreEnough c.levels_to_see-levels.result c.args.notes.now.past r)) (sym c.deref-3.ensures.value)
    (levels-enough c.args.routers.now.items c.step_at.new.routers.items c.args.router c.args.event c.args.seen c.changes_at-before.result c.changes_at-changes.result c.levels_to_see-levels.result c.args.notes.now.past
    c.requires.there c.in-Ok.ensures.state (c.changes_at-before.ensures ∙ ap (λ (rs : List Router). counts_at (nth rs c.args.router)) c.deref.ensures.value)
    (c.changes_at-changes.ensures ∙ ap (λ (rs : List Router). counts_at (nth rs c.args.router)) c.deref-2.ensures.value) c.levels_to_see-levels.ensures.one c.levels_to_see-levels.ensures.two c.requires.noted)

pub returns-clause-sent : goal.returns-clause-sent
returns-clause-sent g c =
    take-sends c.send.result c.args.routers.now.items c.step_at.new.routers.items c.args.router c.args.link c.boot_at-boot.result c.changes_at-changes.result c.args.event c.in-Ok.reply c.args.sent.now.items c.send.new.sent.items
    c.in-Ok.ensures.state c.in-Ok.ensures.reply (c.boot_at-boot.ensures ∙ ap (λ (rs : List Router). boot_of (nth rs c.args.router)) c.deref-4.ensures.value)
    (c.changes_at-changes.ensures ∙ ap (λ (rs : List Router). counts_at (nth rs c.args.router)) c.deref-2.ensures.value) c.send.ensures.ok

pub returns-clause-cause : goal.returns-clause-cause
returns-clause-cause g c =
    take-stops c.send.result c.args.routers.now.items c.step_at.new.routers.items c.args.router c.args.link c.boot_at-boot.result c.changes_at-changes.result c.args.event c.in-Ok.reply c.args.sent.now.items c.send.new.sent.items
    c.in-Ok.ensures.state c.in-Ok.ensures.reply (c.boot_at-boot.ensures ∙ ap (λ (rs : List Router). boot_of (nth rs c.args.router)) c.deref-4.ensures.value)
    (c.changes_at-changes.ensures ∙ ap (λ (rs : List Router). counts_at (nth rs c.args.router)) c.deref-2.ensures.value) c.send.ensures.cause

pub returns-clause-noted : goal.returns-clause-noted
returns-clause-noted g c =
    take-keeps c.send.result c.args.routers.now.items c.step_at.new.routers.items c.args.router c.args.event c.in-Ok.reply c.args.heard c.args.notes.now c.note.new.notes
    c.in-Ok.ensures.state c.in-Ok.ensures.reply (keeps-there c.step_at.new.routers.items c.deref-3.result.now c.args.router c.in-Ok.reply c.args.heard c.args.notes.now c.note.new.notes c.deref-3.ensures.value c.in-Ok-note.ensures)
