use Rattle.std.proofs.Common.{◌∙◌, ◌++◌, ◌-◌, ◌+◌, ℕ, List, take, sym, ap, arith}
use Rattle.weave_text.specs.Lines.{text_of}
use Rattle.weave_text.proofs.AheadLemmas.{take-turn, text-turn}
use Rattle.weave_text.proofs.ahead.script_text.Goals as goal

pub loop-place-preserved : goal.loop-place-preserved
loop-place-preserved c =
    let text = c.loop-place.text in
    let rest = take (c.args.count - (c.loop-place.place + 1)) c.next.new.self.lines in
    let turn = take-turn c.args.count c.loop-place.place c.loop-place.left.lines c.in-Some.line.now c.next.new.self.lines (omega (arith, c.loop-place-test.true)) c.in-Some.ensures.0 in
    ap (λ (t : List ℕ). t ++ text_of rest) c.in-Ok.ensures
    ∙ text-turn text _ c.in-Some.line.now rest (ap (λ (ls : List (List ℕ)). text ++ text_of ls) (sym turn) ∙ c.loop-place.invariant)
