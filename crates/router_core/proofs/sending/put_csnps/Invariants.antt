use Rattle.std.proofs.Common.{◌≡◌, ◌≤◌, ◌++◌, length}
use Rattle.std.specs.List.{AllByRecursion}
use Rattle.snp_exchange.specs.PieceLists.{PieceSaid, said_sent}
use Rattle.router_core.specs.Sending.{all_octets}
use Rattle.router_core.proofs.sending.put_csnps.Given as goal

-- what is added, and what is left
abbrev pub invariant-loop-piece : goal.invariant-loop-piece
invariant-loop-piece l = record {
  out : l.out ++ all_octets l.sender (said_sent l.level l.pieces) ≡ l.fn.out ++ all_octets l.sender (said_sent l.level l.initial.pieces);
  few : AllByRecursion (λ (piece : PieceSaid). length piece.entries ≤ 75) l.pieces;
}

abbrev pub decreases-loop-piece : goal.decreases-loop-piece
decreases-loop-piece l = length l.pieces
