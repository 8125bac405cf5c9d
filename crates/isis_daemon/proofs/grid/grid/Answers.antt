use Rattle.isis_daemon.proofs.HeadlineLemmas.{is-grid-headline}
use Rattle.isis_daemon.proofs.grid.grid.Goals as goal

pub returns-in-Ok-write_summary-clause-ends : goal.returns-in-Ok-write_summary-clause-ends
returns-in-Ok-write_summary-clause-ends g c = is-grid-headline c.args.size c.in-Ok.summary (g.O.Sink.put c.args.output.now) (g.O.Sink.put c.write_summary.new.output) c.in-Ok.ensures.claimed c.in-Ok.ensures.summary c.in-Ok-write_summary.ensures.ok
