use Rattle.std.proofs.Common.{length, take}
use Rattle.lab_facts.specs.Parents.{AreParents, AreRooted}
use Rattle.lab_facts.proofs.parents.merge_pairs.Given as goal

-- the roots are labels by the pairs so far
abbrev pub invariant-loop-place : goal.invariant-loop-place
invariant-loop-place l = record {
  parents : AreParents l.parents (length l.runs);
  roots : AreRooted l.runs (take l.place l.pairs) l.parents;
}
