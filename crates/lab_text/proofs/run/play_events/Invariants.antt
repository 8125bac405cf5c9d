use Rattle.std.proofs.Common.{◌≡◌, drop}
use Rattle.lab_text.specs.KeysRuns.{play_all}
use Rattle.lab_text.specs.KeysInNet.{IsLaidOut}
use Rattle.lab_text.proofs.run.play_events.Given as goal

abbrev pub invariant-loop-event : goal.invariant-loop-event
invariant-loop-event l = record {
  laid : IsLaidOut l.initial.net l.net;
  left : play_all l.net (drop l.event-index l.events) ≡ play_all l.initial.net l.events;
}
