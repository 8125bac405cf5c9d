use Rattle.std.proofs.Common.{sym, ap, ◌∙◌}
use Rattle.network_lab.specs.LabNets.{LabNet}
use Rattle.lab_text.specs.Layouts.{opened}
use Rattle.lab_text.specs.LabRuns.{play_all}
use Rattle.lab_text.proofs.ClaimLemmas.{claimed-run}
use Rattle.lab_text.proofs.event_lines.play_machines.Goals as goal

pub returns-in-Ok-play_lines-clause-claimed : goal.returns-in-Ok-play_lines-clause-claimed
returns-in-Ok-play_lines-clause-claimed c =
    let played = c.in-Ok-play_lines.ensures.value (opened c.in-Ok.net) c.in-Ok.ensures.stands in
    claimed-run c.args.script.now c.in-Ok.net c.play_lines.new.net played.0 c.lines-lines.ensures.sound c.in-Ok.ensures.laid c.in-Ok.ensures.stands (c.facts.ensures.run c.in-Ok.ensures.goes_on) (c.facts.ensures.fresh c.in-Ok.ensures.early)
    (ap (λ (a : LabNet). play_all (opened a) c.args.script.now.lines) (sym c.in-Ok.ensures.laid) ∙ played.1) played.2 c.facts-in-Ok-play_lines.ensures.small (c.facts-in-Ok-play_lines.ensures.within played.3)
