use Rattle.spf_repair.specs.Replace.{HaveFirst, IsExchanged}
use Rattle.spf_repair.proofs.replace.exchange.Given as goal

abbrev pub invariant-loop-place : goal.invariant-loop-place
invariant-loop-place l = record {
  exchanged : IsExchanged l.rows l.removed l.added l.merged.items l.place l.found l.from;
  first : HaveFirst l.rows l.merged.items l.quiet;
}
