use Rattle.std.proofs.Common.{◌≡◌, ◌<◌, ℕ, Some}
use Rattle.std.specs.Prelude.{slice_get}
use Rattle.trace_core.specs.Whichever.{MayMove}
use Rattle.trace_core.proofs.all_ways.loops_among.Given as goal

-- a packet may come back to none of them so far
abbrev pub invariant-loop-at : goal.invariant-loop-at
invariant-loop-at g l = (k place : ℕ) → k < l.at → slice_get l.places k ≡ Some place → MayMove (g.W.Ways.ways l.among) place place → ⊥
