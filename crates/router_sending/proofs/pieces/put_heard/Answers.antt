use Rattle.std.proofs.Common.{length, arith, ap, length-drop}
use Rattle.router_sending.specs.Writing.{heard_tlv}
use Rattle.router_sending.proofs.PieceLemmas.{pieced-written, some-left, take-short}
use Rattle.router_sending.proofs.pieces.put_heard.Goals as goal

pub put_piece-requires : goal.put_piece-requires
put_piece-requires c =
    let size = ap length c.cut.ensures.piece in
    let short = take-short 42 c.loop-rest.rest.now in
    omega (arith, size, short)

pub loop-rest-smaller : goal.loop-rest-smaller
loop-rest-smaller c =
    let size = ap length c.cut.ensures.rest in
    let rest = length-drop 42 c.loop-rest.rest.now in
    let some = some-left (length c.loop-rest.rest.now) c.loop-rest-test.ensures in
    omega (arith, size, rest, some)

pub loop-rest-preserved : goal.loop-rest-preserved
loop-rest-preserved c =
    pieced-written 41 heard_tlv c.loop-rest.out c.put_piece.new.out _ c.loop-rest.rest.now c.cut.result.0.now c.cut.result.1.now (some-left (length c.loop-rest.rest.now) c.loop-rest-test.ensures)
    c.cut.ensures.piece c.cut.ensures.rest c.in-Ok.ensures c.loop-rest.invariant
