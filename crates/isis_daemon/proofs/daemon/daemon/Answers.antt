use Rattle.std.proofs.Common.{sym, subst, ◌∙◌}
use Rattle.isis_daemon.specs.DaemonEnds.{IsConfiguration}
use Rattle.isis_daemon.specs.Runs.{IsDoneUnlessMemory}
use Rattle.isis_daemon.proofs.DaemonLemmas.{unread}
use Rattle.isis_daemon.proofs.TakenLemmas.{same_octets}
use Rattle.isis_daemon.proofs.daemon.daemon.Goals as goal

pub returns-in-Err-read_config-clause-complete : goal.returns-in-Err-read_config-clause-complete
returns-in-Err-read_config-clause-complete g c = λ octets took is calm quiet ports starts.
    let same = same_octets (g.I.Source.gave c.args.input.now) (g.I.Source.gave c.read_whole.new.source) octets c.in-Ok.octets took c.in-Ok.ensures.ok.0 in
    subst IsDoneUnlessMemory (sym c.from-in-Err-read_config.ensures)
    (unread c.as_slice.result.now c.in-Err-read_config.fault (subst IsConfiguration (same ∙ sym c.as_slice.ensures) is) c.in-Err-read_config.ensures.refused)
