use Rattle.std.proofs.Common.{◌≡◌, take}
use Rattle.route_table.proofs.hops.with_systems.Given as goal

abbrev pub invariant-loop-place : goal.invariant-loop-place
invariant-loop-place l = l.hops ≡ take l.place l.nodes
