use Rattle.std.proofs.Common.{◌≡◌, ℕ, length, slice_get}
use Rattle.daemon_edge.specs.Kept.{sum_of, parts}
use Rattle.daemon_edge.proofs.kept.Kept.get.Given as goal

abbrev pub invariant-loop-left : goal.invariant-loop-left
invariant-loop-left l = record {
  sum : sum_of l.left ≡ length l.rest;
  same : slice_get (parts l.left l.rest) l.place ≡ slice_get l.self.datagrams l.fn.place;
}

abbrev pub decreases-loop-left : goal.decreases-loop-left
decreases-loop-left l = length l.left
