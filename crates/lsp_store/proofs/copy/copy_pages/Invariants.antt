use Rattle.std.proofs.Common.{◌≡◌, ◌++◌, length}
use Rattle.lsp_store.proofs.copy.copy_pages.Given as goal

abbrev pub invariant-loop-left : goal.invariant-loop-left
invariant-loop-left g l = l.copy.items ++ l.left ≡ l.pages

abbrev pub decreases-loop-left : goal.decreases-loop-left
decreases-loop-left g l = length l.left
