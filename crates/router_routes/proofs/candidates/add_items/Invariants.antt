use Rattle.std.proofs.Common.{◌≡◌, ◌++◌, map, drop}
use Rattle.router_routes.specs.Candidates.{told_candidate}
use Rattle.router_routes.proofs.candidates.add_items.Given as goal

-- the candidates so far, and those of what is left
abbrev pub invariant-loop-item : goal.invariant-loop-item
invariant-loop-item l =
    l.list.items ++ map (told_candidate l.level (l.system, l.cost)) (drop l.item-index l.items)
    ≡ l.fn.list.items ++ map (told_candidate l.level (l.system, l.cost)) l.items
