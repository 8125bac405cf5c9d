use Rattle.std.proofs.Common.{◌≡◌, ◌++◌, filter, drop}
use Rattle.ipv6_reach.specs.Reach6.{is_reachable6}
use Rattle.ipv6_reach.proofs.reach6.add_reachable6.Given as goal

-- the prefixes so far, and those of what is left
abbrev pub invariant-loop-item : goal.invariant-loop-item
invariant-loop-item l =
    l.items.items ++ filter is_reachable6 (drop l.item-index l.listed)
    ≡ l.fn.items.items ++ filter is_reachable6 l.listed
