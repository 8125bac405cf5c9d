use Rattle.std.proofs.Common.{◌≡◌, ◌+◌, ◌≤◌, length}
use Rattle.flag_sync.specs.BookStates.{book_of}
use Rattle.model_network.specs.Counts.{count_where}
use Rattle.lab_facts.specs.Tallies.{is_flagged, is_ahead}
use Rattle.lab_facts.proofs.counts.count_end.Given as goal

abbrev pub invariant-loop-id : goal.invariant-loop-id
invariant-loop-id l = record {
  flags : l.flags + count_where (is_flagged l.place) l.cells ≡ count_where (is_flagged l.place) (book_of l.own).cells;
  ahead : l.ahead + count_where (is_ahead l.gone l.other_gone (book_of l.other)) l.cells ≡ count_where (is_ahead l.gone l.other_gone (book_of l.other)) (book_of l.own).cells;
  few_flags : l.flags + length l.cells ≤ 65536;
  few_ahead : l.ahead + length l.cells ≤ 65536;
}

abbrev pub decreases-loop-id : goal.decreases-loop-id
decreases-loop-id l = length l.cells
