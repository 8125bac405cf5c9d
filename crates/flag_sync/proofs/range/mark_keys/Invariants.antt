use Rattle.std.proofs.Common.{◌≡◌, length}
use Rattle.flag_sync.specs.Marks.{marks, has_key}
use Rattle.flag_sync.proofs.range.mark_keys.Given as goal

abbrev pub invariant-loop-id : goal.invariant-loop-id
invariant-loop-id l = record {
  rows : marks has_key l.place l.left l.flags.entries ≡ marks has_key l.place l.store.entries l.fn.flags.entries;
  spare : l.flags.spare ≡ l.fn.flags.spare;
}

abbrev pub decreases-loop-id : goal.decreases-loop-id
decreases-loop-id l = length l.left
