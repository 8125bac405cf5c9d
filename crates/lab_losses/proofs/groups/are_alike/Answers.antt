use Rattle.std.proofs.Common.{sym, ◌∙◌, arith}
use Rattle.lab_losses.proofs.AlikeLemmas.{lengths-differ, alike-on, alike-not}
use Rattle.lab_losses.proofs.groups.are_alike.Goals as goal

pub returns-then-len : goal.returns-then-len
returns-then-len c = lengths-differ c.args.a.now c.args.b.now (λ e. c.if-len.true (c.len.ensures ∙ e ∙ sym c.len-2.ensures))

pub returns-then-not-is_alike : goal.returns-then-not-is_alike
returns-then-not-is_alike c =
    alike-not c.args.a.now c.args.b.now c.loop-place.place c.is_alike.result (omega (arith, c.loop-place-test.true, c.len-place-end.ensures))
    (omega (arith, c.len.ensures, c.len-2.ensures, c.if-len.false)) c.is_alike.ensures c.if-not-is_alike.true c.loop-place.invariant

pub loop-place-preserved : goal.loop-place-preserved
loop-place-preserved c =
    alike-on c.args.a.now c.args.b.now c.loop-place.place c.is_alike.result (omega (arith, c.loop-place-test.true, c.len-place-end.ensures))
    (omega (arith, c.len.ensures, c.len-2.ensures, c.if-len.false)) c.is_alike.ensures c.if-not-is_alike.false c.loop-place.invariant
