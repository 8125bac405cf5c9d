use Rattle.std.proofs.Common.{◌≡◌, ◌+◌, ◌≤◌, length}
use Rattle.router_core.specs.Renewals.{staying}
use Rattle.router_core.proofs.renewing.staying.Given as goal

-- those so far, and those that stay of what is left
abbrev pub invariant-loop-entry : goal.invariant-loop-entry
invariant-loop-entry l = record {
  count : l.count + staying l.left ≡ staying l.fn.store.entries;
  few : l.count + length l.left ≤ 65536;
}

abbrev pub decreases-loop-entry : goal.decreases-loop-entry
decreases-loop-entry l = length l.left
