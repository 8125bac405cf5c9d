use Rattle.std.proofs.Common.{◌≡◌, refl, sym, ◌∙◌}
use Rattle.std.proofs.lemmas.Bool.{false≢true}
use Rattle.router_core.specs.Events as core
use Rattle.router_core.specs.Givens.{given}
use Rattle.weave_model.specs.Entries.{answer_to}
use Rattle.weave_replay.specs.Entries.{deed_of, answer_of}
use Rattle.weave_replay.proofs.EntryLemmas.{replay-answers, replay-next}
use Rattle.weave_replay.proofs.entries.replay_entry.Goals as goal

pub returns-then-not-says : goal.returns-then-not-says
returns-then-not-says c =
    let r = c.args.router.now in
    let deed = deed_of c.args.entry.now.event in
    let event = core.event_of r c.in-Ok.event in
    let answers = replay-answers r c.step.new.self event deed c.in-Ok-step.reply c.in-Ok.ensures.event c.in-Ok-step.ensures.state c.in-Ok-step.ensures.reply in
    (sym c.if-not-fits.ensures, λ (e : answer_to given r deed ≡ answer_of c.args.entry.now.reply). false≢true (c.if-not-says.ensures.1 (sym answers ∙ e)))

pub returns : goal.returns
returns c =
    let r = c.args.router.now in
    let deed = deed_of c.args.entry.now.event in
    let event = core.event_of r c.in-Ok.event in
    let answers = replay-answers r c.step.new.self event deed c.in-Ok-step.reply c.in-Ok.ensures.event c.in-Ok-step.ensures.state c.in-Ok-step.ensures.reply in
    (record { fitting = sym c.if-not-fits.ensures; answered = answers ∙ c.if-not-says.ensures.0 refl }, replay-next r c.step.new.self event deed c.in-Ok.ensures.event c.in-Ok-step.ensures.state)
