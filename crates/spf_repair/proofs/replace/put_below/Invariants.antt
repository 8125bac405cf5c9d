use Rattle.std.proofs.Common.{ℕ, ◌≤◌, ◌-◌, List, length}
use Rattle.spf_tree.specs.declared.row.Row.{Row}
use Rattle.spf_repair.specs.Replace.{AreFrom, HaveFirst, IsExchanged}
use Rattle.spf_repair.proofs.replace.put_below.Given as goal

abbrev pub invariant-loop-now : goal.invariant-loop-now
invariant-loop-now l = record {
  within : l.now ≤ length l.added;
  put : (rows removed : List Row) (place found : ℕ) → AreFrom rows place l.node → IsExchanged rows removed l.added l.fn.merged.items place found l.from → IsExchanged rows removed l.added l.merged.items place found l.now;
  first : (rows : List Row) (many : ℕ) → HaveFirst rows l.fn.merged.items many → HaveFirst rows l.merged.items many;
}

abbrev pub decreases-loop-now : goal.decreases-loop-now
decreases-loop-now l = length l.added - l.now
