use Rattle.std.proofs.Common.{map, take}
use Rattle.weave.specs.Coded.{AreAllCoded}
use Rattle.weave.proofs.coding.code_all.Given as goal

abbrev pub invariant-loop-router : goal.invariant-loop-router
invariant-loop-router l = AreAllCoded l.book (take l.router (map (λ row. row.items) l.ports)) l.journals l.tracks.items
