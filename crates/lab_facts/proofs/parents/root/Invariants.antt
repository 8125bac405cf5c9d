use Rattle.std.proofs.Common.{◌≡◌, ◌<◌, ℕ, List, length, slice_index}
use Rattle.lab_facts.specs.Parents.{AreParents, HaveRoots}
use Rattle.lab_facts.proofs.parents.root.Given as goal

abbrev pub invariant-loop-parents : goal.invariant-loop-parents
invariant-loop-parents l = record {
  here : l.here < length l.fn.parents;
  parents : AreParents l.parents (length l.fn.parents);
  root : (roots : List ℕ) → HaveRoots l.fn.parents roots (length l.fn.parents) → slice_index roots l.here ≡ slice_index roots l.router;
  roots : (roots : List ℕ) → HaveRoots l.fn.parents roots (length l.fn.parents) → HaveRoots l.parents roots (length l.fn.parents);
}

abbrev pub decreases-loop-parents : goal.decreases-loop-parents
decreases-loop-parents l = l.here
