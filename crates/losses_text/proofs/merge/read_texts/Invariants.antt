use Rattle.std.proofs.Common.{◌≡◌, ◌+◌, ◌≤◌, length}
use Rattle.losses_text.specs.Merging.{reading_from, reading_of}
use Rattle.line_cuts.specs.Cuts.{parts_behind}
use Rattle.line_cuts.proofs.CutLemmas.{size_left}
use Rattle.losses_text.proofs.merge.read_texts.Given as goal

abbrev pub invariant-loop-left : goal.invariant-loop-left
invariant-loop-left l = record {
  counted : l.number + size_left l.left ≤ length l.texts + 2;
  read : reading_from l.joined l.number (parts_behind 10 l.left) ≡ reading_of l.texts;
}

abbrev pub decreases-loop-left : goal.decreases-loop-left
decreases-loop-left l = size_left l.left
