use Rattle.std.proofs.Common.{◌≡◌, length}
use Rattle.router_core.specs.Calm.{all_last}
use Rattle.router_core.proofs.plan_second.all_last.Given as goal

abbrev pub invariant-loop-entry : goal.invariant-loop-entry
invariant-loop-entry l = all_last l.entries ≡ all_last l.fn.entries

abbrev pub decreases-loop-entry : goal.decreases-loop-entry
decreases-loop-entry l = length l.entries
