use Rattle.std.proofs.Common.{◌≡◌, ◌≤◌, List, take}
use Rattle.std.specs.List.{count_by}
use Rattle.route_table.specs.Ranks.{prefix_number}
use Rattle.forward_views.specs.Looks.{Look}
use Rattle.walk_text.specs.Tests.{AreLooks, owns}
use Rattle.walk_text.proofs.owners.owner_count.Given as goal

-- how many of the routers so far have one
abbrev pub invariant-loop-place : goal.invariant-loop-place
invariant-loop-place l =
    (l.count ≤ l.place)
    × ((looks : List Look) → AreLooks l.network.seen.routers looks → l.count ≡ count_by (owns (prefix_number l.fn.prefix)) (take l.place looks))
