use Rattle.spf_repair.specs.Erase.{HaveGrown, HereHangs}
use Rattle.spf_repair.proofs.erase.spread_hang.Given as goal

abbrev pub invariant-loop-place : goal.invariant-loop-place
invariant-loop-place l = record {
  grown : HaveGrown l.root l.fn.marks l.fn.nodes.items l.marks l.nodes.items;
  here : HereHangs l.rows l.root l.old l.node l.marks l.place;
}
