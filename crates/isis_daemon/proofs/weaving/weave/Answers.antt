use Rattle.std.proofs.Common.{sym, subst, ◌∙◌}
use Rattle.isis_daemon.specs.WeaveEnds.{CanBeWoven}
use Rattle.isis_daemon.proofs.TakenLemmas.{same_octets}
use Rattle.isis_daemon.proofs.WeaveLemmas.{woven_done}
use Rattle.isis_daemon.proofs.weaving.weave.Goals as goal

pub returns-clause-complete : goal.returns-clause-complete
returns-clause-complete g c = λ octets took can calm quiet.
    let same = same_octets (g.I.Source.gave c.args.input.now) (g.I.Source.gave c.read_whole.new.source) octets c.in-Ok.octets took c.in-Ok.ensures.ok.0 in
    woven_done c.weavable_law.ensures c.as_slice.result.now (g.O.Sink.put c.args.output.now) (g.O.Sink.put c.weave_in.new.output) c.weave_in.result
    (subst CanBeWoven (same ∙ sym c.as_slice.ensures) can) (λ e. quiet (c.weave_in.ensures.write_fault e)) c.weave_in.ensures.ends
