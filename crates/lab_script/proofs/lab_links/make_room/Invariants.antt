use Rattle.std.proofs.Common.{◌-◌, ◌+◌, ◌≤◌, length}
use Rattle.lab_script.specs.Counts.{CountsSame}
use Rattle.lab_script.proofs.lab_links.make_room.Given as goal

abbrev pub invariant-loop-counts : goal.invariant-loop-counts
invariant-loop-counts l = record {
  same : CountsSame l.fn.counts.items l.counts.items;
  longer : length l.fn.counts.items ≤ length l.counts.items;
}

abbrev pub decreases-loop-counts : goal.decreases-loop-counts
decreases-loop-counts l = l.router + 1 - length l.counts.items
