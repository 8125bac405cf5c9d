use Rattle.std.proofs.Common.{◌≡◌, ◌++◌, drop}
use Rattle.router_routes.specs.Near.{once_each}
use Rattle.router_routes.proofs.near.once_each.Given as goal

-- what is there so far, and what is left
abbrev pub invariant-loop-place : goal.invariant-loop-place
invariant-loop-place l =
    l.once.items ++ once_each (drop l.place l.nodes) ≡ once_each l.nodes
