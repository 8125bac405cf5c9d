use Rattle.std.proofs.Common.{ℕ, List, length}
use Rattle.spf_tree.specs.declared.row.Row.{Row}
use Rattle.spf_repair.specs.Replace.{HaveFirst, IsExchanged}
use Rattle.spf_repair.proofs.replace.put_rest.Given as goal

abbrev pub invariant-loop-place : goal.invariant-loop-place
invariant-loop-place l = record {
  put : (rows removed : List Row) (found : ℕ) → IsExchanged rows removed l.added l.fn.merged.items (length rows) found l.from → IsExchanged rows removed l.added l.merged.items (length rows) found l.place;
  first : (rows : List Row) (many : ℕ) → HaveFirst rows l.fn.merged.items many → HaveFirst rows l.merged.items many;
}
