use Rattle.std.proofs.Common.{◌≡◌, ◌+◌, ◌≤◌, length}
use Rattle.timeline_text.proofs.FlagLemmas.{count_rows}
use Rattle.timeline_text.proofs.flags.circuit_flags.Given as goal

-- those so far, and those of the rows that are left
abbrev pub invariant-loop-row : goal.invariant-loop-row
invariant-loop-row l = record {
  flags : l.flags + count_rows l.place l.rows ≡ count_rows l.place l.book.rows;
  few : l.flags + length l.rows ≤ 65536;
}

abbrev pub decreases-loop-row : goal.decreases-loop-row
decreases-loop-row l = length l.rows
