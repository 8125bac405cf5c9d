use Rattle.std.proofs.Common.{◌≤◌, ◌+◌, ◌*◌, length}
use Rattle.lsp_store.specs.Rooms.{strain}
use Rattle.lsp_store.proofs.rooms.strain_of.Given as goal

abbrev pub invariant-loop-left : goal.invariant-loop-left
invariant-loop-left g l = record {
  most : strain l.pages + 32 ≤ l.sum + strain l.left;
  bound : l.sum + 32 * length l.left ≤ 32 + 32 * length l.pages;
}

abbrev pub decreases-loop-left : goal.decreases-loop-left
decreases-loop-left g l = length l.left
