use Rattle.std.proofs.Common.{◌≢◌, ◌<◌, ℕ, Some}
use Rattle.std.specs.Prelude.{slice_get}
use Rattle.trace_core.proofs.all_ways.may_be.Given as goal

-- none of the ways so far is it
abbrev pub invariant-loop-number : goal.invariant-loop-number
invariant-loop-number g l = (k : ℕ) → k < l.number → slice_get (g.W.Ways.ways l.among l.place) k ≢ Some l.end
