use Rattle.std.proofs.Common.{◌≡◌, drop}
use Rattle.designated_is.specs.Greatest.{best_of}
use Rattle.designated_is.proofs.election.best.Given as goal

-- the best so far and of what is left is the best of all
abbrev pub invariant-loop-other : goal.invariant-loop-other
invariant-loop-other l = best_of l.best (drop l.other-index l.others) ≡ best_of l.fn.first l.others
