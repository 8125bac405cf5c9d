use Rattle.std.proofs.Common.{◌≡◌, take}
use Rattle.spf_tree.proofs.hops.hops_of.Given as goal

abbrev pub invariant-loop-place : goal.invariant-loop-place
invariant-loop-place l = l.hops ≡ take l.place l.nodes
