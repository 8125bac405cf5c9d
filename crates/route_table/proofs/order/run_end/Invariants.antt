use Rattle.std.proofs.Common.{ℕ, ◌<◌, ◌≤◌, ◌-◌, length, slice_index_or}
use Rattle.route_table.specs.declared.candidate.Candidate.{Candidate}
use Rattle.route_table.specs.Order.{IsAsGood}
use Rattle.route_table.proofs.order.run_end.Given as goal

abbrev pub invariant-loop-end : goal.invariant-loop-end
invariant-loop-end l = record {
  after : l.first < l.end;
  within : l.end ≤ length l.candidates;
  same : (k : ℕ) (d : Candidate) → l.first ≤ k → k < l.end → IsAsGood (slice_index_or l.candidates k d) (slice_index_or l.candidates l.first d);
}

abbrev pub decreases-loop-end : goal.decreases-loop-end
decreases-loop-end l = length l.candidates - l.end
