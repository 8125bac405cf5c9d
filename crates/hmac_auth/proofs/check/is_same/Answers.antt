use Rattle.std.proofs.Common.{ap, length, arith}
use Rattle.std.proofs.lemmas.Slice.Zip.{Zip-more, either_empty_from_Zip}
use Rattle.hmac_auth.proofs.CompareLemmas.{same-more, same-end}
use Rattle.hmac_auth.proofs.check.is_same.Goals as goal

pub loop-a-preserved : goal.loop-a-preserved
loop-a-preserved c =
    let rest = Zip-more c.loop-a.a-iterator c.next.new.self c.next.result (c.in-Some.a, c.in-Some.b) c.in-Some.is c.next.ensures.steps in
    let first = ap length rest.0 in
    let second = ap length rest.1 in
    (omega (arith, c.loop-a.invariant.0), same-more _ _ _ _ _ _ _ _ rest.0 rest.1 c.loop-a.invariant.1)

pub returns : goal.returns
returns c =
    same-end _ _ _ _ c.loop-a.invariant.0
    (either_empty_from_Zip c.loop-a.a-iterator c.next.new.self c.next.result c.in-None.is c.next.ensures.steps)
    c.loop-a.invariant.1
