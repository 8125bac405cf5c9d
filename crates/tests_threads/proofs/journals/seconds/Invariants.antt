use Rattle.std.proofs.Common.{◌≡◌, ◌+◌}
use Rattle.turn_lock.specs.Passes.{turns_left}
use Rattle.circuit_threads.specs.Sharing.{IsPassOf}
use Rattle.tests_threads.proofs.journals.seconds.Given as goal

abbrev pub invariant-loop : goal.invariant-loop
invariant-loop g l =
    IsPassOf l.fn.shared l.pass × (turns_left l.pass + l.counter ≡ turns_left l.fn.pass)
