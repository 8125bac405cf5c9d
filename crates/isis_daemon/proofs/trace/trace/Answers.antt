use Rattle.std.proofs.Common.{sym, subst, ◌∙◌}
use Rattle.isis_daemon.specs.TraceEnds.{IsTraceable}
use Rattle.isis_daemon.proofs.TakenLemmas.{same_octets}
use Rattle.isis_daemon.proofs.TraceLemmas.{traced_done}
use Rattle.isis_daemon.proofs.trace.trace.Goals as goal

pub returns-clause-complete : goal.returns-clause-complete
returns-clause-complete g c = λ octets took can calm quiet.
    let same = same_octets (g.I.Source.gave c.args.input.now) (g.I.Source.gave c.read_whole.new.source) octets c.in-Ok.octets took c.in-Ok.ensures.ok.0 in
    traced_done c.args.name.now c.args.address c.as_slice.result.now (g.O.Sink.put c.args.output.now) (g.O.Sink.put c.trace_after.new.output) c.trace_after.result
    (subst (IsTraceable c.args.name.now) (same ∙ sym c.as_slice.ensures) can) (λ e. quiet (c.trace_after.ensures.write_fault e)) c.trace_after.ensures.ends
