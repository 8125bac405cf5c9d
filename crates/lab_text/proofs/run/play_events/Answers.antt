use Rattle.std.proofs.Common.{◌∙◌, ◌+◌, drop, sym, arith}
use Rattle.lab_keys.specs.KeysNet.{Net}
use Rattle.lab_text.specs.KeysRuns.{play_line, play_all}
use Rattle.lab_text.proofs.PlayLemmas.{play_all-at, play_all-end, bind-ok, bind-err}
use Rattle.lab_script.proofs.ReadLemmas.{Gives-from_step}
use Rattle.lab_text.proofs.SoundLemmas.{IsLaidOut-trans}
use Rattle.lab_text.proofs.run.play_events.Goals as goal

pub loop-event-preserved : goal.loop-event-preserved
loop-event-preserved c =
    let events = c.args.events.now in
    let i = c.loop-event.event-index in
    let told = c.event-item.result in
    record {
      laid = IsLaidOut-trans _ _ _ c.loop-event.invariant.laid c.in-Ok.ensures.places;
      left =
          sym (bind-ok (play_line c.loop-event.net told) c.play_event.new.net (λ (more : Net). play_all more (drop (i + 1) events)) c.in-Ok.ensures.value)
          ∙ sym (play_all-at events c.loop-event.net i told c.loop-event-test.true c.event-item.is)
          ∙ c.loop-event.invariant.left;
    }

pub returns-in-Err-clause-value : goal.returns-in-Err-clause-value
returns-in-Err-clause-value c =
    let events = c.args.events.now in
    let i = c.loop-event.event-index in
    let told = c.event-item.result in
    Gives-from_step c.in-Err.fault c.play_event.new.net c.play_event.new.net (play_line c.loop-event.net told) _ c.in-Err.ensures.value
    (λ f e. sym c.loop-event.invariant.left ∙ play_all-at events c.loop-event.net i told c.loop-event-test.true c.event-item.is ∙ bind-err (play_line c.loop-event.net told) f (λ (more : Net). play_all more (drop (i + 1) events)) e)

pub returns-clause-value : goal.returns-clause-value
returns-clause-value c = sym c.loop-event.invariant.left ∙ play_all-end c.args.events.now c.loop-event.net c.loop-event.event-index (omega arith)
