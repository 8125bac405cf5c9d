use Rattle.std.proofs.Common.{◌≡◌, ℕ, ◌-◌, ◌≤◌, ◌<◌, length, get_or}
use Rattle.route_table.specs.declared.candidate.Candidate.{Candidate}
use Rattle.route_table.specs.Ranks.{prefix_number}
use Rattle.route_table.proofs.patch.first_for.Given as goal

abbrev pub invariant-loop-low : goal.invariant-loop-low
invariant-loop-low l = record {
  wanted : l.wanted ≡ prefix_number l.fn.prefix;
  order : l.low ≤ l.high;
  within : l.high ≤ length l.sorted;
  below : (k : ℕ) (d : Candidate) → k < l.low → prefix_number (get_or l.sorted k d).prefix < prefix_number l.fn.prefix;
  above : (k : ℕ) (d : Candidate) → l.high ≤ k → k < length l.sorted → prefix_number l.fn.prefix ≤ prefix_number (get_or l.sorted k d).prefix;
}

abbrev pub decreases-loop-low : goal.decreases-loop-low
decreases-loop-low l = l.high - l.low
