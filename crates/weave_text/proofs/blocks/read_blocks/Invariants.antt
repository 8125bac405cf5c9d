use Rattle.std.proofs.Common.{◌≡◌, length}
use Rattle.lab_script.specs.Scripts.{names_in}
use Rattle.weave_text.specs.Blocks.{hear_lines, blocks_in}
use Rattle.weave_text.proofs.blocks.read_blocks.Given as goal

abbrev pub invariant-loop-line : goal.invariant-loop-line
invariant-loop-line l = record {
  numbered : l.number ≡ l.left.number;
  read : hear_lines (names_in l.script) l.so_far l.number l.left.lines
      ≡ blocks_in (names_in l.script) l.lines;
}

abbrev pub decreases-loop-line : goal.decreases-loop-line
decreases-loop-line l = length l.left.lines
