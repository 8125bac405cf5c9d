use Rattle.std.proofs.Common.{◌≡◌, length, map, take}
use Rattle.adjacency.specs.declared.neighbour.Neighbour.{Neighbour}
use Rattle.router_sending.proofs.pieces.put_piece.Given as goal

-- the SNPAs so far are those of the neighbours so far
abbrev pub invariant-loop-place : goal.invariant-loop-place
invariant-loop-place l = record {
  so_far : take l.place l.snpas ≡ map (λ (n : Neighbour). n.snpa) (take l.place l.piece);
  size : length l.snpas ≡ 42;
}
