use Rattle.std.proofs.Common.{◌≡◌, length}
use Rattle.model_router.specs.SnpTable.{lists}
use Rattle.flag_sync.specs.Heard.{entries_of}
use Rattle.flag_sync.proofs.range.is_listed.Given as goal

abbrev pub invariant-loop-left : goal.invariant-loop-left
invariant-loop-left l = lists (entries_of l.left) l.n ≡ lists (entries_of l.listed) l.n

abbrev pub decreases-loop-left : goal.decreases-loop-left
decreases-loop-left l = length l.left
