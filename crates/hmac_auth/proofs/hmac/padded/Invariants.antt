use Rattle.std.proofs.Common.{◌≡◌, ◌++◌, map, take, drop}
use Rattle.std.specs.Prelude.{bit_xor}
use Rattle.hmac_auth.proofs.hmac.padded.Given as goal

-- the octets up to the index are padded, and those behind it as they were
abbrev pub invariant-loop-octet : goal.invariant-loop-octet
invariant-loop-octet l =
    l.octet-items ≡ map (λ octet. bit_xor octet l.pad) (take l.octet-index l.block) ++ drop l.octet-index l.block
