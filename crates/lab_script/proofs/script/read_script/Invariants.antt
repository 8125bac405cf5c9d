use Rattle.std.proofs.Common.{◌≡◌, ◌+◌, ◌≤◌, length}
use Rattle.line_cuts.specs.Cuts.{parts_behind}
use Rattle.lab_script.specs.Scripts.{hear_lines, script_of}
use Rattle.line_cuts.proofs.CutLemmas.{size_left}
use Rattle.lab_script.proofs.script.read_script.Given as goal

abbrev pub invariant-loop-left : goal.invariant-loop-left
invariant-loop-left l = record {
  counted : l.number + size_left l.left ≤ length l.text + 3;
  read : hear_lines l.script l.number (parts_behind 10 l.left) ≡ script_of l.text;
}

abbrev pub decreases-loop-left : goal.decreases-loop-left
decreases-loop-left l = size_left l.left
