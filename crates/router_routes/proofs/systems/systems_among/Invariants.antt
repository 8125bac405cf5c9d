use Rattle.std.proofs.Common.{◌≡◌, ◌++◌, drop}
use Rattle.spf_tree.specs.Distances.{cost_at}
use Rattle.router_routes.specs.Kept.{systems_among}
use Rattle.router_routes.proofs.systems.systems_among.Given as goal

-- the systems so far, and those of what is left
abbrev pub invariant-loop-node : goal.invariant-loop-node
invariant-loop-node l =
    l.list.items ++ systems_among (cost_at l.distances) l.root (drop l.node-index l.nodes)
    ≡ systems_among (cost_at l.distances) l.root l.nodes
