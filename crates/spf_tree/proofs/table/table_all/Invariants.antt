use Rattle.std.proofs.Common.{take}
use Rattle.spf_tree.specs.Exploring.{AreTabled}
use Rattle.spf_tree.proofs.table.table_all.Given as goal

abbrev pub invariant-loop-place : goal.invariant-loop-place
invariant-loop-place l = AreTabled l.indexed.rows l.root l.labels (take l.place l.plain) l.table.items
