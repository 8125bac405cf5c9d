-- So many turns are left as were not taken yet.
use Rattle.std.proofs.Common.{◌≡◌, ◌+◌}
use Rattle.turn_lock.specs.Passes.{turns_left, Belongs}
use Rattle.tests_threads.proofs.turns.count_turns.Given as goal

abbrev pub invariant-loop : goal.invariant-loop
invariant-loop g l = Belongs l.fn.lock l.pass × (turns_left l.pass + l.counter ≡ turns_left l.fn.pass)
