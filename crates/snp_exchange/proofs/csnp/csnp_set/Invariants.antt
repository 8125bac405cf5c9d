use Rattle.std.proofs.Common.{◌≡◌, ◌++◌, length}
use Rattle.isis_base.specs.declared.level.Level.{Level}
use Rattle.snp_exchange.specs.Pieces.{sent}
use Rattle.snp_exchange.specs.PieceLists.{said_sent}
use Rattle.snp_exchange.proofs.csnp.csnp_set.Given as goal

-- what is sent, and what is still lent
abbrev pub invariant-loop-piece : goal.invariant-loop-piece
invariant-loop-piece l = (level : Level) → sent level l.set.items ++ said_sent level l.pieces ≡ said_sent level l.initial.pieces

abbrev pub decreases-loop-piece : goal.decreases-loop-piece
decreases-loop-piece l = length l.pieces
