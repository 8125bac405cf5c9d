use Rattle.std.proofs.Common.{◌≡◌, length}
use Rattle.flag_sync.specs.BookStates.{book_of as book_in}
use Rattle.flag_sync.specs.Heard.{entries_of}
use Rattle.model_network.specs.Takings.{would_flag_any}
use Rattle.network_lab.proofs.hearing.any_flags.Given as goal

-- what is left decides
abbrev pub invariant-loop-left : goal.invariant-loop-left
invariant-loop-left l = would_flag_any (book_in l.book) (entries_of l.left) ≡ would_flag_any (book_in l.book) (entries_of l.entries)

abbrev pub decreases-loop-left : goal.decreases-loop-left
decreases-loop-left l = length l.left
