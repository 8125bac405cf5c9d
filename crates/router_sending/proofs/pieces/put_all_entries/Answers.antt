use Rattle.std.proofs.Common.{length}
use Rattle.isis_tlv.specs.Spelling.{entry_tlv}
use Rattle.router_sending.proofs.PieceLemmas.{pieced-written, some-left}
use Rattle.router_sending.proofs.pieces.put_all_entries.Goals as goal

pub loop-rest-preserved : goal.loop-rest-preserved
loop-rest-preserved c =
    pieced-written 14 entry_tlv c.loop-rest.out c.put_entries.new.out _ c.loop-rest.rest.now c.cut.result.0.now c.cut.result.1.now (some-left (length c.loop-rest.rest.now) c.loop-rest-test.ensures)
    c.cut.ensures.piece c.cut.ensures.rest c.in-Ok.ensures.ok c.loop-rest.invariant
