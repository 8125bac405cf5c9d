use Rattle.std.proofs.Common.{◌≡◌, ◌+◌, ◌≤◌, ◌++◌, length}
use Rattle.std.specs.Prelude.{vec_capacity}
use Rattle.lsp_fragments.proofs.by_id.copy_of.Given as goal

-- the copies, and what is left to copy, are the list
abbrev pub invariant-loop-left : goal.invariant-loop-left
invariant-loop-left l = record {
  all : l.copy.items ++ l.left ≡ l.list;
  room : length l.copy.items + length l.left ≤ vec_capacity l.copy;
}

abbrev pub decreases-loop-left : goal.decreases-loop-left
decreases-loop-left l = length l.left
