use Rattle.std.proofs.Common.{◌≡◌, ◌++◌, length}
use Rattle.snp_exchange.specs.Sweeps.{merge}
use Rattle.snp_exchange.proofs.ranges.with_range.Given as goal

-- what is merged, and what is left, give the whole
abbrev pub invariant-loop-rest : goal.invariant-loop-rest
invariant-loop-rest l = l.new.items ++ merge l.rest l.start l.end ≡ merge l.ranges l.fn.start l.fn.end

abbrev pub decreases-loop-rest : goal.decreases-loop-rest
decreases-loop-rest l = length l.rest
