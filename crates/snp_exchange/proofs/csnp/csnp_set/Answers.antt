use Rattle.std.proofs.Common.{◌∙◌}
use Rattle.snp_exchange.specs.declared.csnp.Piece.{Piece}
use Rattle.snp_exchange.proofs.WalkLemmas.{sent-more}
use Rattle.snp_exchange.proofs.csnp.csnp_set.Goals as goal

pub loop-piece-preserved : goal.loop-piece-preserved
loop-piece-preserved c level =
    let piece = c.in-Some.piece in
    let p : Piece = record { start = piece.start; end = piece.end; entries = piece.entries } in
    sent-more level c.loop-piece.set.items c.add.new.set.items p c.loop-piece.pieces c.next.new.self c.in-Ok.ensures c.in-Some.ensures.steps ∙ c.loop-piece.invariant level
