use Rattle.std.proofs.Common.{◌≡◌, ◌+◌, []}
use Rattle.losses.specs.Trees.{Tree, behind, losses_in, quiet_length}
use Rattle.losses.specs.PartsLeft.{part_losses}
use Rattle.losses.proofs.TreeLemmas.{Going}
use Rattle.losses.proofs.exploring.lose_each.Given as goal

-- how many deliveries are to come, and which schedules; so far nothing is lost
abbrev pub invariant-loop-place : goal.invariant-loop-place
invariant-loop-place g l =
    (losses_in l.fates.items ≡ 0)
    × ((tree : Tree) → g.P.Player.plays l.player tree
    → (quiet_length (behind tree l.fates.items) + l.place ≡ l.further)
    × Going l.wanted l.fn.tally l.tally (part_losses l.part.of l.part.number l.place (behind tree l.fates.items) l.most l.fates.items)
    (part_losses l.part.of l.part.number 0 tree l.most []))
