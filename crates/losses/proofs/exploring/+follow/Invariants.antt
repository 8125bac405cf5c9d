use Rattle.std.proofs.Common.{◌≡◌, ◌+◌, ◌≤◌, length, take}
use Rattle.losses.specs.Trees.{Tree, behind, losses_in, quiet_length}
use Rattle.losses.specs.Schedules.{schedules, with_losses}
use Rattle.losses.proofs.TreeLemmas.{Going}
use Rattle.losses.proofs.exploring.+follow.Given as goal

abbrev pub decreases-follow : goal.decreases-follow
decreases-follow g l = l.most

-- the fates so far, how many deliveries are to come, and which schedules
abbrev pub invariant-loop-place : goal.invariant-loop-place
invariant-loop-place g l =
    (take l.start l.fates.items ≡ l.fn.fates.items)
    × (l.start ≤ length l.fates.items)
    × (losses_in l.fates.items ≡ losses_in l.fn.fates.items)
    × ((tree : Tree) → g.P.Player.plays l.player tree
    → (quiet_length (behind tree l.fates.items) + l.place ≡ l.place-end)
    × Going l.wanted l.fn.tally l.tally (with_losses (behind tree l.fates.items) l.most l.fates.items)
    (schedules (behind tree l.fn.fates.items) l.most l.fn.fates.items))
