use Rattle.std.proofs.Common.{◌≡◌, ◌≤◌, take}
use Rattle.route_table.specs.Patches.{coming}
use Rattle.route_table.proofs.patch.count_coming.Given as goal

abbrev pub invariant-loop-place : goal.invariant-loop-place
invariant-loop-place l = record {
  sum : l.many ≡ coming l.routes (take l.place l.list);
  few : l.many ≤ l.place;
}
