use Rattle.std.proofs.Common.{ℕ, ◌-◌, ◌≤◌, ◌<◌, length, get_or}
use Rattle.route_table.specs.declared.route.Route.{Route}
use Rattle.route_table.specs.Ranks.{prefix_number}
use Rattle.route_table.proofs.putting.place_of.Given as goal

abbrev pub invariant-loop-low : goal.invariant-loop-low
invariant-loop-low l = record {
  order : l.low ≤ l.high;
  within : l.high ≤ length l.routes;
  below : (k : ℕ) (d : Route) → k < l.low → prefix_number (get_or l.routes k d).prefix < l.wanted;
  above : (k : ℕ) (d : Route) → l.high ≤ k → k < length l.routes → l.wanted ≤ prefix_number (get_or l.routes k d).prefix;
}

abbrev pub decreases-loop-low : goal.decreases-loop-low
decreases-loop-low l = l.high - l.low
