use Rattle.std.proofs.Common.{◌≡◌, ◌≤◌, ◌-◌, ◌++◌, [], length}
use Rattle.flag_sync.specs.Heard.{entries_of}
use Rattle.flag_sync.specs.Said.{said_owed}
use Rattle.snp_exchange.specs.Pieces.{lists_of, listed}
use Rattle.snp_exchange.proofs.psnp.psnp_lists.Given as goal

-- what is listed, and what is still owed
abbrev pub invariant-loop-said : goal.invariant-loop-said
invariant-loop-said l = record {
  lists : lists_of l.lists.items ++ listed (entries_of l.entries.items) (entries_of l.owed) ≡ listed [] (entries_of (said_owed (l.circuit - 1) l.book.store.entries l.book.rows));
  few : length l.entries.items ≤ 75;
}

abbrev pub decreases-loop-said : goal.decreases-loop-said
decreases-loop-said l = length l.owed
