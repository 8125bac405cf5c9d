use Rattle.std.proofs.Common.{◌≡◌, ◌+◌, ◌-◌, [], length}
use Rattle.spf_tree.specs.Exploring.{unmarked}
use Rattle.spf_repair.specs.Erase.{HaveGrown, IsErasing}
use Rattle.spf_repair.proofs.erase.erase.Given as goal

abbrev pub invariant-loop-many : goal.invariant-loop-many
invariant-loop-many l = record {
  grown : HaveGrown l.root l.fn.marks l.fn.nodes.items l.marks l.nodes.items;
  erasing : IsErasing l.rows l.root l.old l.marks l.nodes.items l.many;
  spared : l.fn.nodes.items ≡ [] → (l.marks ≡ l.fn.marks) × (l.nodes.items ≡ []);
}

abbrev pub decreases-loop-many : goal.decreases-loop-many
decreases-loop-many l = unmarked l.marks + (length l.nodes.items - l.many)
