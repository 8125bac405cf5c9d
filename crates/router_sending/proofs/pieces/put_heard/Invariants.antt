use Rattle.std.proofs.Common.{◌≡◌, ◌++◌, length}
use Rattle.router_sending.specs.Writing.{pieced, heard_tlv}
use Rattle.router_sending.proofs.pieces.put_heard.Given as goal

-- what is written, and what is left, give the whole
abbrev pub invariant-loop-rest : goal.invariant-loop-rest
invariant-loop-rest l = l.out ++ pieced 42 heard_tlv l.rest ≡ l.fn.out ++ pieced 42 heard_tlv l.fn.heard

abbrev pub decreases-loop-rest : goal.decreases-loop-rest
decreases-loop-rest l = length l.rest
