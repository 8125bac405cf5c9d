use Rattle.std.proofs.Common.{◌≡◌, ◌++◌, Bool, sym, subst, append-nil}
use Rattle.std.specs.Prelude.{OnOk}
use Rattle.trace_text.specs.TraceText.{word_if}
use Rattle.trace_text.proofs.lines.add_if.Goals as goal

pub returns-then-holds : goal.returns-then-holds
returns-then-holds c =
    subst (λ (b : Bool). OnOk c.extend.result (c.extend.new.self ≡ c.args.text.now ++ word_if b c.args.word.now)) (sym c.if-holds.true) c.extend.ensures.ok

pub returns : goal.returns
returns c = subst (λ (b : Bool). c.args.text.now ≡ c.args.text.now ++ word_if b c.args.word.now) (sym c.if-holds.false) (sym (append-nil c.args.text.now))
