use Rattle.std.proofs.Common.{◌≡◌, ◌<◌, ◌^◌, take}
use Rattle.std.specs.List.{filter, All}
use Rattle.spf_tree.specs.declared.row.Row.{Row}
use Rattle.spf_tree.specs.Pairs.{row_passes}
use Rattle.spf_tree.proofs.choice.kept.Given as goal

abbrev pub invariant-loop-place : goal.invariant-loop-place
invariant-loop-place l = record {
  rows : l.kept.items ≡ filter (row_passes l.pairs l.overloaded l.root) (take l.place l.rows);
  small : All (λ (row : Row). row.metric < 2 ^ 32) l.kept.items;
}
