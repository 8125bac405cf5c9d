use Rattle.std.proofs.Common.{◌≡◌, ◌+◌, ◌*◌, ◌≤◌, ◌++◌, ℕ, [], length, vec_capacity, slice_get, IfSome}
use Rattle.turn_lock.specs.Passes.{turns_left, label, splits, own, seen}
use Rattle.circuit_threads.specs.Sharing.{IsPassOf}
use Rattle.daemon_edge.specs.Closings.{Opening}
use Rattle.circuit_serve.specs.Ends.{IsNew}
use Rattle.circuit_serve.specs.Jobs.{IsOpened}
use Rattle.circuit_serve.proofs.adding.add_jobs.Given as goal

abbrev pub invariant-loop-port : goal.invariant-loop-port
invariant-loop-port g l =
    (IsPassOf l.fn.shared l.pass × (label l.pass ≡ 0) × (splits l.pass ≡ length l.yielded) × (own l.pass ≡ []))
    × (turns_left l.pass + length l.yielded * (l.turns + l.turns) ≡ turns_left l.fn.pass)
    × (seen l.pass ≡ seen l.fn.pass)
    × (l.circuit ≡ length l.yielded)
    × (length l.list.items ≡ length l.yielded)
    × (vec_capacity l.fn.jobs ≤ vec_capacity l.list)
    × ((i : ℕ) → IfSome (slice_get l.list.items i) (λ w. IsNew g.P.Port.given g.P.Port.offered g.P.Port.asked l.fn.shared l.turns (i + 1) w.task w.pass w.end × (w.turns ≡ l.turns) × (w.shared.now ≡ l.fn.shared)))
    × ((opens : ℕ → Opening) → ((i : ℕ) → IfSome (slice_get l.fn.ports.items i) (λ p. g.P.Port.opening p ≡ opens i))
    → (i : ℕ) → IfSome (slice_get l.list.items i) (λ w. IsOpened g.P.Port.opening (opens i) w.task))
    × (l.fn.ports.items ≡ l.yielded ++ l.port-iterator.rest.items)
