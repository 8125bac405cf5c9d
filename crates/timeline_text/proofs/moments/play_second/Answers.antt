use Rattle.timeline_text.proofs.MomentLemmas.{second-ends}
use Rattle.timeline_text.proofs.moments.play_second.Goals as goal

pub returns-in-Ok-clause-ends : goal.returns-in-Ok-clause-ends
returns-in-Ok-clause-ends c = λ m s.
    second-ends c.args.address c.args.line c.args.run c.args.second m c.run.new.self c.args.page.now c.note.new.page c.note.result (c.in-Ok.ensures.run m s) c.note.ensures.added c.note.ensures.cause
