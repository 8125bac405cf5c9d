use Rattle.std.proofs.Common.{◌≡◌, ◌+◌, ◌≤◌, ◌++◌, length}
use Rattle.std.specs.Prelude.{vec_capacity}
use Rattle.lsp_store.proofs.copy.copy_pairs.Given as goal

abbrev pub invariant-loop-left : goal.invariant-loop-left
invariant-loop-left g l = record {
  all : l.copy.items ++ l.left ≡ l.fn.copy.items ++ l.pairs;
  room : length l.copy.items + length l.left ≤ vec_capacity l.copy;
  same : vec_capacity l.copy ≡ vec_capacity l.fn.copy;
}

abbrev pub decreases-loop-left : goal.decreases-loop-left
decreases-loop-left g l = length l.left
