use Rattle.std.proofs.Common.{◌≡◌, ◌+◌, List, length}
use Rattle.turn_lock.specs.Passes.{turns_left, label, own, seen}
use Rattle.circuit_threads.specs.declared.entry.JournalEntry.{JournalEntry}
use Rattle.circuit_threads.specs.Sharing.{first_router, IsPassOf}
use Rattle.circuit_serve.specs.Labels.{Only}
use Rattle.circuit_serve.specs.Walks.{seconds, IsCalm}
use Rattle.circuit_serve.proofs.ticking.tick.Given as goal

abbrev pub invariant-loop : goal.invariant-loop
invariant-loop g l =
    IsPassOf l.fn.shared l.pass × (turns_left l.pass + l.counter ≡ turns_left l.fn.pass) × (length (own l.pass) ≡ l.counter) × (label l.pass ≡ label l.fn.pass)
    × IsCalm (first_router l.fn.shared) (seen l.pass)
    × ((es : List JournalEntry) × Only (label l.fn.pass) (own l.pass) (seen l.pass) es × (seconds es ≡ l.counter) × (length es ≡ l.counter)
    × (g.T.Pacer.given l.pacer ≡ g.T.Pacer.given l.fn.pacer + l.counter))
