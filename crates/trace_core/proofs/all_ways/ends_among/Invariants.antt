use Rattle.std.proofs.Common.{◌≡◌, ◌<◌, ℕ, Some}
use Rattle.std.specs.Prelude.{slice_get}
use Rattle.trace_core.specs.Whichever.{may}
use Rattle.trace_core.proofs.all_ways.ends_among.Given as goal

-- a packet ends so at none of them so far
abbrev pub invariant-loop-at : goal.invariant-loop-at
invariant-loop-at g l = (k place : ℕ) → k < l.at → slice_get l.places k ≡ Some place → may (g.W.Ways.ways l.among) place l.end → ⊥
