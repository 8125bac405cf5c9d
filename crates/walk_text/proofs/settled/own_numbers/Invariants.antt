use Rattle.std.proofs.Common.{◌≡◌, ◌++◌, map, drop}
use Rattle.forward_views.specs.Looks.{own_ways}
use Rattle.walk_text.specs.Ways.{way_number, AreSmall}
use Rattle.walk_text.proofs.settled.own_numbers.Given as goal

-- those so far, before those of what is left
abbrev pub invariant-loop-route : goal.invariant-loop-route
invariant-loop-route l =
    (l.numbers.items ++ map way_number (own_ways (drop l.route-index l.routes)) ≡ map way_number (own_ways l.routes))
    × (AreSmall (own_ways (drop l.route-index l.routes)) → AreSmall (own_ways l.routes))
