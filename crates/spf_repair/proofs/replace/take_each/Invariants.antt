use Rattle.std.proofs.Common.{◌≡◌, ◌+◌, ◌<◌, ◌^◌, length, take}
use Rattle.std.specs.List.{All}
use Rattle.spf_tree.specs.declared.row.Row.{Row}
use Rattle.spf_tree.specs.Graphs.{times}
use Rattle.spf_repair.proofs.replace.take_each.Given as goal

abbrev pub invariant-loop-place : goal.invariant-loop-place
invariant-loop-place l = record {
  times : (x : Row) → times l.rows.items x + times (take l.place l.removed) x ≡ times l.fn.rows.items x + times (take l.found l.removed) x;
  len : length l.rows.items + l.place ≡ length l.fn.rows.items + l.found;
  small : All (λ (r : Row). r.metric < 2 ^ 32) l.fn.rows.items → All (λ (r : Row). r.metric < 2 ^ 32) l.rows.items;
}
