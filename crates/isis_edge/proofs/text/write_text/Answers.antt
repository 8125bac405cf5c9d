use Rattle.std.proofs.Common.{arith}
use Rattle.isis_edge.proofs.ToldLemmas.{WrotePrefix-later, underway_same, underway_front}
use Rattle.isis_edge.proofs.text.write_text.Goals as goal

pub returns-in-Err-flush-clause-begun : goal.returns-in-Err-flush-clause-begun
returns-in-Err-flush-clause-begun g c =
    WrotePrefix-later _ c.add_next.new.page (g.T.Text.rest c.add_next.new.self) _ _ _ (underway_same _ _ _ _ _ c.in-Ok-false.ensures.adds c.pieces.invariant.underway) c.in-Err-flush.ensures.begun

pub pieces-preserved : goal.pieces-preserved
pieces-preserved g c =
    let front = c.in-Ok-settle.ensures.ok in
    record {
      underway = underway_front _ c.add_next.new.page front.0 c.settle.new.page (g.T.Text.rest c.add_next.new.self) _ _ _ front.1 (underway_same _ _ _ _ _ c.in-Ok-true.ensures.adds c.pieces.invariant.underway) front.2;
      later = omega (arith, c.pieces.invariant.later, c.settle.ensures.later);
    }

pub returns-in-Err-settle-clause-begun : goal.returns-in-Err-settle-clause-begun
returns-in-Err-settle-clause-begun g c =
    WrotePrefix-later _ c.add_next.new.page (g.T.Text.rest c.add_next.new.self) _ _ _ (underway_same _ _ _ _ _ c.in-Ok-true.ensures.adds c.pieces.invariant.underway) c.in-Err-settle.ensures.begun
