use Rattle.std.proofs.Common.{◌≡◌, ◌∙◌, ◌-◌, take, sym, ap}
use Rattle.std.proofs.lemmas.Result.{IfOk-weaker}
use Rattle.lab_script.specs.Scripts.{script_of}
use Rattle.weave_text.specs.Ahead.{script_text}
use Rattle.weave_text.specs.Weavings.{script_in, limit_of}
use Rattle.weave_text.proofs.WovenLemmas.{taken, lines-fault}
use Rattle.weave_text.proofs.laid.limit_before.Goals as goal

pub returns-in-Ok : goal.returns-in-Ok
returns-in-Ok c =
    let lines = c.args.lines.now.lines in
    let few : take c.min-earlier.result lines ≡ take (c.args.line - 2) (take c.args.count lines) =
    taken c.args.count (c.args.line - 2) c.min-earlier.result lines (rw (← c.saturating_sub.ensures) c.min-earlier.ensures) in
    let text : c.as_slice.result.now ≡ script_text (take (c.args.line - 2) (take c.args.count lines)) = c.as_slice.ensures ∙ c.in_ok-text.ensures ∙ ap script_text few in
    IfOk-weaker c.limit_of.result _ _ (λ which is. is ∙ ap limit_of (sym (ap script_of (sym text) ∙ c.in-Ok.ensures))) c.limit_of.ensures

pub returns : goal.returns
returns c =
    let lines = c.args.lines.now.lines in
    let few : take c.min-earlier.result lines ≡ take (c.args.line - 2) (take c.args.count lines) =
    taken c.args.count (c.args.line - 2) c.min-earlier.result lines (rw (← c.saturating_sub.ensures) c.min-earlier.ensures) in
    let text : c.as_slice.result.now ≡ script_text (take (c.args.line - 2) (take c.args.count lines)) = c.as_slice.ensures ∙ c.in_ok-text.ensures ∙ ap script_text few in
    IfOk-weaker c.limit_told.result _ _ (λ which is. is (script_in (take (c.args.line - 2) (take c.args.count lines))) (lines-fault (take (c.args.line - 2) (take c.args.count lines)) c.as_slice.result.now c.in-Err.fault text c.in-Err.ensures)) c.limit_told.ensures
