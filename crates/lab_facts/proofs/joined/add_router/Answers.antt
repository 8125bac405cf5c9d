use Rattle.std.proofs.Common.{◌∙◌, refl, sym}
use Rattle.std.proofs.lemmas.Result.{on_ok_weaker}
use Rattle.lab_facts.proofs.TagLemmas.{step-skip, step-new, step-add, place-within}
use Rattle.lab_facts.proofs.joined.add_router.Goals as goal

pub returns-then-not-takes_part-clause-groups : goal.returns-then-not-takes_part-clause-groups
returns-then-not-takes_part-clause-groups c =
    step-skip c.args.runs.now c.args.labels.now c.args.router c.args.groups.now c.args.places.now c.requires.groups (sym c.takes_part.ensures ∙ c.if-not-takes_part.true)

pub returns-then-label-router-clause-groups : goal.returns-then-label-router-clause-groups
returns-then-label-router-clause-groups c =
    on_ok_weaker c.push.result
    (step-new c.args.runs.now c.args.labels.now c.args.router c.args.groups.now c.push.new.self c.args.places.now c.in_ok-group.group.items c.len.result c.requires.tags c.requires.here c.requires.groups (sym c.takes_part.ensures ∙ c.if-not-takes_part.false) c.if-label-router.true c.in_ok-group.ensures.items c.len.ensures)
    c.push.ensures.ok

pub add-requires : goal.add-requires
add-requires c =
    place-within c.args.runs.now c.args.labels.now c.args.router _ c.args.groups.now c.args.places.now c.requires.tags c.requires.here c.requires.groups (sym c.takes_part.ensures ∙ c.if-not-takes_part.false) refl c.if-label-router.false

pub returns-clause-groups : goal.returns-clause-groups
returns-clause-groups c =
    on_ok_weaker c.add.result
    (step-add c.args.runs.now c.args.labels.now c.args.router _ c.args.groups.now c.add.new.self c.args.places.now c.requires.tags c.requires.here c.requires.groups (sym c.takes_part.ensures ∙ c.if-not-takes_part.false) refl c.if-label-router.false)
    c.add.ensures
