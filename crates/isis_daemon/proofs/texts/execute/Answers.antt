use Rattle.std.proofs.Common.{sym, subst, ◌∙◌}
use Rattle.isis_daemon.specs.Runs.{IsTaken}
use Rattle.isis_daemon.proofs.TakenLemmas.{same_octets}
use Rattle.isis_daemon.proofs.TextLemmas.{text_done}
use Rattle.isis_daemon.proofs.texts.execute.Goals as goal

pub returns-clause-complete : goal.returns-clause-complete
returns-clause-complete g c = λ octets took taken calm quiet.
    let same = same_octets (g.I.Source.gave c.args.input.now) (g.I.Source.gave c.read_whole.new.source) octets c.in-Ok.octets took c.in-Ok.ensures.ok.0 in
    text_done c.args.command c.as_slice.result.now (g.O.Sink.put c.args.output.now) (g.O.Sink.put c.put_text.new.output) c.put_text.result
    (subst (IsTaken c.args.command) (same ∙ sym c.as_slice.ensures) taken) (λ e. quiet (c.put_text.ensures.write_fault e)) c.put_text.ensures.ends
