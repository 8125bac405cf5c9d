use Rattle.isis_daemon.proofs.HeadlineLemmas.{is-headline}
use Rattle.isis_daemon.proofs.texts.lab.Goals as goal

pub returns-in-Ok-end-clause-ends : goal.returns-in-Ok-end-clause-ends
returns-in-Ok-end-clause-ends g c = is-headline c.args.text.now c.in-Ok.script (g.O.Sink.put c.args.output.now) (g.O.Sink.put c.run_script-end.new.out) c.in-Ok.ensures c.in-Ok-end.ensures.ends c.in-Ok-end.ensures.claimed
