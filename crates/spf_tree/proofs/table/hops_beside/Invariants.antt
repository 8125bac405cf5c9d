use Rattle.spf_tree.specs.Exploring.{AreHopsOf}
use Rattle.spf_tree.proofs.table.hops_beside.Given as goal

abbrev pub invariant-loop-place : goal.invariant-loop-place
invariant-loop-place l = AreHopsOf l.pairs l.target l.hops l.place
