use Rattle.std.proofs.Common.{◌-◌, length}
use Rattle.spf_tree.proofs.edges.catch_up.Given as goal

abbrev pub decreases-loop-place : goal.decreases-loop-place
decreases-loop-place l = length l.old - l.place
