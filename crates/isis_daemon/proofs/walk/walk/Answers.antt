use Rattle.std.proofs.Common.{sym, subst, ◌∙◌}
use Rattle.isis_daemon.specs.WalkEnds.{IsWalkable}
use Rattle.isis_daemon.proofs.TakenLemmas.{same_octets}
use Rattle.isis_daemon.proofs.WalkLemmas.{walked_done}
use Rattle.isis_daemon.proofs.walk.walk.Goals as goal

pub returns-clause-complete : goal.returns-clause-complete
returns-clause-complete g c = λ octets took can calm quiet.
    let same = same_octets (g.I.Source.gave c.args.input.now) (g.I.Source.gave c.read_whole.new.source) octets c.in-Ok.octets took c.in-Ok.ensures.ok.0 in
    walked_done c.args.name.now c.args.prefix c.as_slice.result.now (g.O.Sink.put c.args.output.now) (g.O.Sink.put c.walk_after.new.output) c.walk_after.result
    (subst (IsWalkable c.args.name.now c.args.prefix) (same ∙ sym c.as_slice.ensures) can) (λ e. quiet (c.walk_after.ensures.write_fault e)) c.walk_after.ensures.ends
