use Rattle.std.proofs.Common.{map, take}
use Rattle.weave.specs.Coded.{AreLetteredAll}
use Rattle.weave.proofs.takes.add_all.Given as goal

abbrev pub invariant-loop-place : goal.invariant-loop-place
invariant-loop-place l = AreLetteredAll l.book (map (λ row. row.items) l.ports) (take l.place l.journals)
