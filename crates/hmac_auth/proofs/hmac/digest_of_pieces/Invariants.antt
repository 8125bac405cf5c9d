use Rattle.std.proofs.Common.{◌++◌, map, take}
use Rattle.std.specs.List.{concat}
use Rattle.md5.specs.Md5.{Holds}
use Rattle.hmac_auth.specs.Hmac.{padded}
use Rattle.hmac_auth.proofs.hmac.digest_of_pieces.Given as goal

-- the hasher holds the inner block and the pieces so far
abbrev pub invariant-loop-piece : goal.invariant-loop-piece
invariant-loop-piece l =
    Holds l.inner (padded 0x36 l.block ++ concat (map (λ piece. piece.now) (take l.piece-index l.pieces)))
