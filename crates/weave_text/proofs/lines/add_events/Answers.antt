use Rattle.std.proofs.Common.{sym}
use Rattle.weave_text.specs.Named.{naming_in}
use Rattle.weave_text.specs.Written.{event_line}
use Rattle.weave_text.proofs.LineLemmas.{turn}
use Rattle.weave_text.proofs.lines.add_events.Goals as goal

pub loop-place-preserved : goal.loop-place-preserved
loop-place-preserved c =
    turn (event_line (naming_in c.args.script.now) c.args.net.now.seen) c.loop-place.text c.add_event.new.text _ c.loop-place.place c.args.schedule.now c.in-Some.event.now (sym c.in-Some.ensures) c.in-Ok.ensures c.loop-place.invariant
