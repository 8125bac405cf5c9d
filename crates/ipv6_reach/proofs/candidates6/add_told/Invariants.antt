use Rattle.std.proofs.Common.{◌≡◌, ◌++◌, map, drop}
use Rattle.ipv6_reach.specs.Reach6.{told6}
use Rattle.ipv6_reach.proofs.candidates6.add_told.Given as goal

-- the candidates so far, and those of what is left
abbrev pub invariant-loop-item : goal.invariant-loop-item
invariant-loop-item l =
    l.list.items ++ map (told6 l.system l.cost) (drop l.item-index l.items) ≡ l.fn.list.items ++ map (told6 l.system l.cost) l.items
