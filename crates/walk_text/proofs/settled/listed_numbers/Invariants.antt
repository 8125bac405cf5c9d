use Rattle.std.proofs.Common.{◌≡◌, ◌++◌, map, drop}
use Rattle.forward_views.specs.Looks.{item_way}
use Rattle.walk_text.specs.Ways.{way_number, AreSmall}
use Rattle.walk_text.proofs.settled.listed_numbers.Given as goal

-- those so far, before those of what is left
abbrev pub invariant-loop-item : goal.invariant-loop-item
invariant-loop-item l =
    (l.numbers.items ++ map way_number (map item_way (drop l.item-index l.items)) ≡ map way_number (map item_way l.items))
    × (AreSmall (map item_way (drop l.item-index l.items)) → AreSmall (map item_way l.items))
