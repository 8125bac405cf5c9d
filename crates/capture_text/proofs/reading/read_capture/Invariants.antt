use Rattle.std.proofs.Common.{◌+◌, ◌≤◌, length}
use Rattle.line_cuts.specs.Cuts.{parts_behind}
use Rattle.line_cuts.specs.Words.{lines_of}
use Rattle.line_cuts.proofs.CutLemmas.{size_left}
use Rattle.capture_text.specs.declared.read.Read.{Read}
use Rattle.capture_text.specs.Reading.{nothing_read, AreRead}
use Rattle.capture_text.proofs.reading.read_capture.Given as goal

-- what is still to be read leads where all of it does, and no line is counted twice
abbrev pub invariant-loop-left : goal.invariant-loop-left
invariant-loop-left l = record {
  counted : l.read.kept + l.read.skipped + size_left l.left ≤ length l.input + 1;
  read : (end : Read) → AreRead l.read (parts_behind 10 l.left) end → AreRead (nothing_read l.fn.level) (lines_of l.input) end;
}

abbrev pub decreases-loop-left : goal.decreases-loop-left
decreases-loop-left l = size_left l.left
