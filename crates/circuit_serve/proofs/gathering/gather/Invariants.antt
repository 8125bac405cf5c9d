use Rattle.std.proofs.Common.{◌≡◌, ◌↔◌, ℕ, ◌+◌, ◌*◌, ◌<◌, ◌≤◌, ◌++◌, length, vec_len, vec_capacity, slice_get, IfSome}
use Rattle.turn_lock.specs.Passes.{turns_left, label, own, seen}
use Rattle.circuit_threads.specs.Sharing.{first_router, IsPassOf, HasAll}
use Rattle.circuit_serve.specs.declared.end.ServeEnd.TheVariants.{Done, NotStarted}
use Rattle.circuit_serve.specs.Labels.{of_label, by_label}
use Rattle.circuit_serve.specs.Jobs.{IsOpened}
use Rattle.daemon_edge.specs.Closings.{Opening}
use Rattle.circuit_serve.specs.Ends.{IsEnd, Gathers}
use Rattle.circuit_serve.proofs.gathering.gather.Given as goal

abbrev pub invariant-loop-job : goal.invariant-loop-job
invariant-loop-job g l =
    (IsPassOf l.fn.shared l.pass × (label l.pass ≡ label l.fn.pass))
    × (turns_left l.pass + length (own l.pass) ≡ (turns_left l.fn.pass + length (own l.fn.pass)) + length l.yielded * (l.turns + l.turns))
    × (by_label 0 (own l.pass) (seen l.pass) ≡ by_label 0 (own l.fn.pass) (seen l.fn.pass))
    × (length l.list.items ≡ length l.yielded)
    × (vec_len l.fn.jobs ≤ vec_capacity l.list)
    × Gathers g.P.Port.given g.P.Port.offered g.P.Port.asked l.turns l.list.items l.pass (l.worst ≡ Done)
    × IsEnd (first_router l.fn.shared) (seen l.pass) l.worst
    × (l.worst ≡ Done → l.fn.end ≡ Done)
    × ((l.worst ≡ NotStarted) ↔ (l.fn.end ≡ NotStarted))
    × ((opens : ℕ → Opening) → ((i : ℕ) → IfSome (slice_get l.fn.jobs.items i) (λ v. IsOpened g.P.Port.opening (opens i) v.task))
    → (i : ℕ) → IfSome (slice_get l.list.items i) (λ p. g.P.Port.opening p ≡ opens i))
    × (0 < length l.yielded → HasAll l.fn.shared l.pass → (c : ℕ) → of_label c (seen l.pass) ≡ by_label c (own l.pass) (seen l.pass))
    × (l.fn.jobs.items ≡ l.yielded ++ l.job-iterator.rest.items)
