use Rattle.snp_exchange.proofs.SweepLemmas.{missing-first, missing-next}
use Rattle.snp_exchange.proofs.sweep.swept_of.Goals as goal

pub returns-then-range-gt0 : goal.returns-then-range-gt0
returns-then-range-gt0 c = missing-first c.args.ranges.now _ c.requires c.in-len1-up.len_at_least c.if-range-gt0.true

pub returns-then-range-lt18446744073709551615 : goal.returns-then-range-lt18446744073709551615
returns-then-range-lt18446744073709551615 c = missing-next c.args.ranges.now _ c.requires c.in-len1-up.len_at_least c.if-range-lt18446744073709551615.true
