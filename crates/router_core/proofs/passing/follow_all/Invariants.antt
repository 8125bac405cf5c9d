use Rattle.std.proofs.Common.{◌≡◌}
use Rattle.router_levels.specs.Views.{KeepsSpare, state_of}
use Rattle.router_core.specs.Seconds.{follow_first}
use Rattle.router_core.proofs.passing.follow_all.Given as goal

-- the first so many are followed
abbrev pub invariant-loop-place : goal.invariant-loop-place
invariant-loop-place l = record {
  state : state_of l.on ≡ follow_first (state_of l.initial.on) l.level l.circuits l.place;
  circuits : l.on.book.circuits ≡ l.initial.on.book.circuits;
  spare : KeepsSpare l.initial.on l.on;
}
