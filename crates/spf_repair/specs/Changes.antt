-- Repaired distances as contracts see them.

use Rattle.std.specs.Prelude.{ℕ, List}
use Rattle.isis_base.specs.declared.identifiers.NodeId.{NodeId}
use Rattle.spf_tree.specs.Graphs.{GraphOf}

-- a graph, the root that distances are from, the distances, and how many changes there were (own)
pub record RepairedOf : Type 0 where
  pub graph : GraphOf
  pub root : NodeId
  pub distances : List (ℕ × ℕ)
  pub changes : ℕ
