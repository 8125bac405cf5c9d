use Rattle.std.proofs.Common.{◌≡◌, ◌≤◌, ◌++◌, ◌+◌, length, reverse}
use Rattle.std.specs.Prelude.{vec_capacity}
use Rattle.lsp_store.proofs.page.move_all.Given as goal

abbrev pub invariant-loop-item : goal.invariant-loop-item
invariant-loop-item g l = record {
  whole : l.to.items ++ reverse l.from.items ≡ l.fn.to.items ++ l.fn.from.items;
  room : length l.to.items + length l.from.items ≤ vec_capacity l.to;
  front : vec_capacity l.to ≡ vec_capacity l.fn.to;
  back : vec_capacity l.from ≡ vec_capacity l.fn.from;
}

abbrev pub decreases-loop-item : goal.decreases-loop-item
decreases-loop-item g l = length l.from.items
