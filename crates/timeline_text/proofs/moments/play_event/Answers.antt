use Rattle.timeline_text.proofs.MomentLemmas.{event-ends}
use Rattle.timeline_text.proofs.moments.play_event.Goals as goal

pub returns-in-Ok-clause-ends : goal.returns-in-Ok-clause-ends
returns-in-Ok-clause-ends c = λ m s.
    let played = c.in-Ok.ensures.value m s in
    event-ends c.args.address c.args.line.now.line c.args.line.now.deed m c.play_line.new.net c.args.page.now c.note.new.page c.note.result c.requires.event
    played.0 played.1 played.2 c.note.ensures.added c.note.ensures.cause
