use Rattle.std.proofs.Common.{◌≡◌, length}
use Rattle.flag_sync.specs.Ages.{first_over}
use Rattle.flag_sync.proofs.ages.first_in.Given as goal

abbrev pub invariant-loop-id : goal.invariant-loop-id
invariant-loop-id l = first_over l.entries ≡ first_over l.fn.entries

abbrev pub decreases-loop-id : goal.decreases-loop-id
decreases-loop-id l = length l.entries
