use Rattle.std.proofs.Common.{Err, ap, sym, subst}
use Rattle.isis_daemon.specs.Runs.{IsDoneUnlessMemory}
use Rattle.isis_daemon.proofs.StateLemmas.{state-done}
use Rattle.isis_daemon.proofs.state.state.Goals as goal

pub returns-in-Err-clause-complete : goal.returns-in-Err-clause-complete
returns-in-Err-clause-complete g c = λ octets took has calm quiet.
    subst IsDoneUnlessMemory (sym c.from.ensures)
    (state-done c.args.options.boot c.args.options.entries (g.I.Source.gave c.args.input.now) (g.I.Source.gave c.write_state.new.input) octets
    (g.I.Source.ended c.write_state.new.input) (g.O.Sink.put c.args.output) (g.O.Sink.put c.write_state.new.output) c.in-Err.fault took has c.in-Err.ensures.ends
    (λ read. calm (c.in-Err.ensures.read_fault (ap Err read))) (λ wrote. quiet (c.in-Err.ensures.write_fault (ap Err wrote))))
