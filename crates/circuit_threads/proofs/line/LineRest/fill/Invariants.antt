use Rattle.std.proofs.Common.{◌≡◌, ◌++◌, length}
use Rattle.circuit_threads.specs.LineRests.{rest_of}
use Rattle.circuit_threads.proofs.line.LineRest.fill.Given as goal

abbrev pub invariant-loop-self : goal.invariant-loop-self
invariant-loop-self l = l.page ++ rest_of l.self ≡ rest_of l.fn.self

abbrev pub decreases-loop-self : goal.decreases-loop-self
decreases-loop-self l = length (rest_of l.self)
