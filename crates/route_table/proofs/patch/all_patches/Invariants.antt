use Rattle.route_table.specs.Order.{IsListedHop}
use Rattle.route_table.specs.Patches.{HavePatches}
use Rattle.route_table.proofs.patch.all_patches.Given as goal

abbrev pub invariant-loop-place : goal.invariant-loop-place
invariant-loop-place l = HavePatches (IsListedHop l.one l.two) l.sorted l.prefixes l.list.items l.place
