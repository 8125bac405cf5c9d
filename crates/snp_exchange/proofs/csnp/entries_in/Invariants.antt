use Rattle.std.proofs.Common.{◌≡◌, ◌++◌, length}
use Rattle.snp_exchange.proofs.csnp.entries_in.Given as goal

abbrev pub invariant-loop-said : goal.invariant-loop-said
invariant-loop-said l = l.entries ++ l.walk ≡ l.fn.walk

abbrev pub decreases-loop-said : goal.decreases-loop-said
decreases-loop-said l = length l.walk
