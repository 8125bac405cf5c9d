use Rattle.std.proofs.Common.{◌≡◌, ℕ, List, ◌++◌, length}
use Rattle.std.specs.Fmt.{HasWritten, IsPlainFormatter}
use Rattle.isis_base.specs.AreaTexts.{groups_text}
use Rattle.isis_base.proofs.display.GroupsDisplay.fmt.Given as goal

abbrev pub invariant-loop-left : goal.invariant-loop-left
invariant-loop-left g l =
    IsPlainFormatter l.initial.f → (front : List ℕ) × HasWritten g.W.Write.write_str_gives l.initial.f front l.f × (front ++ groups_text l.left ≡ groups_text l.initial.left)

abbrev pub decreases-loop-left : goal.decreases-loop-left
decreases-loop-left g l = length l.left
