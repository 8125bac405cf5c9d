use Rattle.std.proofs.Common.{refl, arith}
use Rattle.weave_replay.proofs.PlaceLemmas.{lists-same}
use Rattle.weave_replay.proofs.replies.are_same.Goals as goal

pub returns : goal.returns
returns c = ((λ _. lists-same c.args.datagrams.now c.args.others.now (omega (arith, c.len.ensures, c.len-2.ensures, c.if-len.false)) (λ k within. c.loop-place.invariant k (omega (arith, within, c.loop-place-test.false, c.len-place-end.ensures)))), λ _. refl)
