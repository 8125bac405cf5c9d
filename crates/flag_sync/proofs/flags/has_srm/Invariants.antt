use Rattle.std.proofs.Common.{◌≡◌, length}
use Rattle.flag_sync.specs.Among.{some_srm}
use Rattle.flag_sync.proofs.flags.has_srm.Given as goal

abbrev pub invariant-loop-row : goal.invariant-loop-row
invariant-loop-row l = record {
  some : some_srm l.place l.left ≡ some_srm l.place l.rows.entries;
}

abbrev pub decreases-loop-row : goal.decreases-loop-row
decreases-loop-row l = length l.left
