use Rattle.std.proofs.Common.{◌≡◌, ◌-◌, ◌++◌, length}
use Rattle.model_router.specs.Pulls.{due_lsps}
use Rattle.flag_sync.specs.BookStates.{cells_of}
use Rattle.router_core.specs.Sending.{all_octets, MaySend}
use Rattle.router_core.proofs.sending.put_lsps.Given as goal

-- what is added, and what is left
abbrev pub invariant-loop-entry : goal.invariant-loop-entry
invariant-loop-entry l = record {
  out : l.out ++ all_octets l.sender (due_lsps l.level (l.sender.circuit - 1) (cells_of l.entries l.rows)) ≡ l.fn.out ++ all_octets l.sender (due_lsps l.level (l.sender.circuit - 1) (cells_of l.book.store.entries l.book.rows));
  may : MaySend (l.sender.circuit - 1) l.entries l.rows;
}

abbrev pub decreases-loop-entry : goal.decreases-loop-entry
decreases-loop-entry l = length l.entries
