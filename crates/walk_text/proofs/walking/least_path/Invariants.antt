use Rattle.std.proofs.Common.{◌-◌, ◌<◌, List, length}
use Rattle.route_table.specs.Ranks.{prefix_number}
use Rattle.forward_views.specs.Looks.{Look}
use Rattle.walk_text.specs.Tests.{AreLooks}
use Rattle.walk_text.specs.OnWay.{IsOnWay, IsHopAt}
use Rattle.walk_text.proofs.walking.least_path.Given as goal

abbrev pub decreases-loop-hop : goal.decreases-loop-hop
decreases-loop-hop l = length l.network.seen.routers - length l.places.items

-- the walk so far
abbrev pub invariant-loop-hop : goal.invariant-loop-hop
invariant-loop-hop l =
    (l.place < length l.network.seen.routers)
    × ((looks : List Look) → AreLooks l.network.seen.routers looks
    → IsOnWay looks (prefix_number l.fn.prefix) l.fn.from l.places.items l.place × IsHopAt looks (prefix_number l.fn.prefix) l.place l.hop)
