use Rattle.std.proofs.Common.{◌≡◌, ◌+◌, ◌≤◌, length}
use Rattle.flag_sync.specs.BookStates.{book_of}
use Rattle.lab_facts.specs.Excepted.{ids_of, count_beyond}
use Rattle.lab_facts.proofs.counts.held_beyond.Given as goal

abbrev pub invariant-loop-id : goal.invariant-loop-id
invariant-loop-id l = record {
  count : l.count + count_beyond (ids_of (book_of l.own).cells) (ids_of l.cells) ≡ count_beyond (ids_of (book_of l.own).cells) (ids_of (book_of l.other).cells);
  few : l.count + length l.cells ≤ 65536;
}

abbrev pub decreases-loop-id : goal.decreases-loop-id
decreases-loop-id l = length l.cells
