use Rattle.std.proofs.Common.{◌≡◌, ◌+◌, ◌≤◌, length}
use Rattle.flag_sync.specs.BookStates.{book_of}
use Rattle.lab_facts.specs.Excepted.{ids_of}
use Rattle.lab_facts.proofs.counts.held_count.Given as goal

abbrev pub invariant-loop-entry : goal.invariant-loop-entry
invariant-loop-entry l = record {
  count : l.count + length (ids_of l.cells) ≡ length (ids_of (book_of l.book).cells);
  few : l.count + length l.cells ≤ 65536;
}

abbrev pub decreases-loop-entry : goal.decreases-loop-entry
decreases-loop-entry l = length l.cells
