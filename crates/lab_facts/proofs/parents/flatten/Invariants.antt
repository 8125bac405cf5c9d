use Rattle.std.proofs.Common.{◌≡◌, ◌<◌, ◌≤◌, ℕ, List, length, slice_index}
use Rattle.lab_facts.specs.Parents.{HaveRoots}
use Rattle.lab_facts.proofs.parents.flatten.Given as goal

-- those before are done, the others are as they were
abbrev pub invariant-loop-router : goal.invariant-loop-router
invariant-loop-router l = record {
  size : length l.parents ≡ length l.fn.parents;
  done : (roots : List ℕ) (r : ℕ) → HaveRoots l.fn.parents roots (length l.fn.parents) → r < l.router → slice_index l.parents r ≡ slice_index roots r;
  left : (r : ℕ) → l.router ≤ r → slice_index l.parents r ≡ slice_index l.fn.parents r;
}
