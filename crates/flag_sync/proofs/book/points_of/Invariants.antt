use Rattle.std.proofs.Common.{◌≡◌, ◌≤◌, ◌-◌, ◌&&◌, nat_lt, ℕ, length}
use Rattle.model_router.specs.Places.{nth}
use Rattle.model_router.specs.Sets.{has}
use Rattle.flag_sync.specs.Circuits.{is_point}
use Rattle.flag_sync.proofs.book.points_of.Given as goal

abbrev pub invariant-loop-place : goal.invariant-loop-place
invariant-loop-place l = record {
  known : (q : ℕ) → has l.points q ≡ (nat_lt q l.place && is_point (nth l.kinds q));
  bound : l.place ≤ length l.kinds;
}

abbrev pub decreases-loop-place : goal.decreases-loop-place
decreases-loop-place l = length l.kinds - l.place
