use Rattle.std.proofs.Common.{◌≡◌, ◌++◌, length}
use Rattle.isis_tlv.specs.Spelling.{entry_tlv}
use Rattle.router_sending.specs.Writing.{pieced}
use Rattle.router_sending.proofs.pieces.put_all_entries.Given as goal

-- what is written, and what is left, give the whole
abbrev pub invariant-loop-rest : goal.invariant-loop-rest
invariant-loop-rest l = l.out ++ pieced 15 entry_tlv l.rest ≡ l.fn.out ++ pieced 15 entry_tlv l.fn.entries

abbrev pub decreases-loop-rest : goal.decreases-loop-rest
decreases-loop-rest l = length l.rest
