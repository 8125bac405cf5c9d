use Rattle.std.proofs.Common.{◌≡◌, ◌+◌, ◌≤◌, length}
use Rattle.journal_text.specs.Journals.{entries_from, journal_of}
use Rattle.journal_text.proofs.JournalLemmas.{joined}
use Rattle.line_cuts.specs.Cuts.{parts_behind}
use Rattle.line_cuts.proofs.CutLemmas.{size_left}
use Rattle.journal_text.proofs.journal.read_journal.Given as goal

abbrev pub invariant-loop-left : goal.invariant-loop-left
invariant-loop-left l = record {
  counted : l.number + size_left l.left ≤ length l.text + 2;
  read : joined l.entries.items (entries_from l.number (parts_behind 10 l.left)) ≡ journal_of l.text;
}

abbrev pub decreases-loop-left : goal.decreases-loop-left
decreases-loop-left l = size_left l.left
