use Rattle.std.proofs.Common.{◌≡◌, ◌++◌, map, drop}
use Rattle.ipv6_reach.specs.Reach6.{own6}
use Rattle.ipv6_reach.proofs.candidates6.add_own.Given as goal

-- the candidates so far, and those of what is left
abbrev pub invariant-loop-item : goal.invariant-loop-item
invariant-loop-item l =
    l.list.items ++ map (own6 l.root) (drop l.item-index l.items) ≡ l.fn.list.items ++ map (own6 l.root) l.items
