use Rattle.std.proofs.Common.{◌≡◌, length}
use Rattle.lsp_fragments.specs.Issues.{all_rest}
use Rattle.lsp_fragments.specs.Kept.{all_issued}
use Rattle.lsp_fragments.proofs.own_lsps.all_rest.Given as goal

-- what is left rests where all do
abbrev pub invariant-loop-left : goal.invariant-loop-left
invariant-loop-left l = all_rest (all_issued l.left) ≡ all_rest (all_issued l.list)

abbrev pub decreases-loop-left : goal.decreases-loop-left
decreases-loop-left l = length l.left
