use Rattle.std.proofs.Common.{◌≡◌, ◌++◌, map, drop}
use Rattle.router_routes.specs.Leaks.{item_pair}
use Rattle.router_routes.proofs.leaks.pairs_of.Given as goal

-- the pairs so far, and those of what is left
abbrev pub invariant-loop-item : goal.invariant-loop-item
invariant-loop-item l =
    l.list.items ++ map item_pair (drop l.item-index l.items) ≡ map item_pair l.items
