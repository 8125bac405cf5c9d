use Rattle.std.proofs.Common.{◌≡◌, ◌+◌, ◌≤◌, None, List, length}
use Rattle.turn_lock.specs.Passes.{turns_left, label, own, seen}
use Rattle.circuit_threads.specs.Sharing.{first_router, IsPassOf}
use Rattle.circuit_threads.specs.declared.entry.JournalEntry.{JournalEntry}
use Rattle.circuit_serve.specs.Labels.{Only}
use Rattle.circuit_serve.specs.Walks.{Ran, IsCalm}
use Rattle.circuit_serve.proofs.working.work.Given as goal

abbrev pub invariant-loop-number : goal.invariant-loop-number
invariant-loop-number g l =
    IsPassOf l.fn.shared l.pass × (turns_left l.fn.pass ≤ turns_left l.pass + (l.number + l.number)) × (turns_left l.pass + length (own l.pass) ≡ turns_left l.fn.pass) × (label l.pass ≡ l.fn.circuit)
    × IsCalm (first_router l.fn.shared) (seen l.pass)
    × (g.P.Port.opening l.port ≡ g.P.Port.opening l.fn.port)
    × ((es : List JournalEntry) × Only l.fn.circuit (own l.pass) (seen l.pass) es × Ran l.fn.circuit es (g.P.Port.given l.port) (g.P.Port.offered l.port) (g.P.Port.asked l.port) l.number None)
