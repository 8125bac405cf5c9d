use Rattle.lab_text.specs.Layouts.{laid_out, opened}
use Rattle.timeline_text.proofs.OutcomeLemmas.{fault-times, finish-times}
use Rattle.timeline_text.proofs.moments.timeline_of.Goals as goal

pub returns-in-Ok-played : goal.returns-in-Ok-played
returns-in-Ok-played c =
    finish-times c.args.script.now c.args.address c.in-Ok-played.page c.finish.result (c.in-Ok-played.ensures (opened (laid_out c.args.script.now)) c.in-Ok.ensures.stands) c.finish.ensures.text c.finish.ensures.cause

pub returns-in-Err-played : goal.returns-in-Err-played
returns-in-Err-played c =
    fault-times c.args.script.now c.args.address c.in-Err-played.fault (c.in-Err-played.ensures (opened (laid_out c.args.script.now)) c.in-Ok.ensures.stands)
