-- Graphs: the rows of a level that may be walked.

use Rattle.std.specs.Prelude.{◌≡◌, ℕ, ◌==◌, ◌&&◌, ◌||◌, Bool, not, if◌then◌else◌, List}
use Rattle.std.specs.List.{list_any, count_by}
use Rattle.isis_base.specs.declared.identifiers.NodeId.{NodeId}
use Rattle.spf_tree.specs.declared.row.Row.{Row}
use Rattle.spf_tree.specs.Nodes.{node_number}
use Rattle.spf_tree.specs.Walks.{start, end}

-- the rows of a graph, and its root (own)
pub record GraphOf : Type 0 where
  pub rows : List Row
  pub root : NodeId

-- whether some row leads from one node to the other, whatever its metric (ISO 10589 7.2.8.2)
abbrev pub leads : List Row → ℕ → ℕ → Bool
leads rows from to = list_any (λ (row : Row). start row == from && end row == to) rows

-- whether a node is overloaded (ISO 10589 7.2.8.1)
abbrev pub is_overloaded : List NodeId → ℕ → Bool
is_overloaded overloaded node = list_any (λ (o : NodeId). node_number o == node) overloaded

-- whether a row may be walked: its metric isn't the greatest (RFC 5305 3), some row leads back, and it starts at the root
-- or at a node that isn't overloaded (ISO 10589 7.2.8)
abbrev pub is_usable : List Row → List NodeId → ℕ → ℕ → ℕ → ℕ → Bool
is_usable rows overloaded root from to metric =
    not (metric == 16777215)
    && (leads rows to from && (from == root || not (is_overloaded overloaded from)))

-- whether two rows have the same ends and metric (own)
abbrev pub same_row : Row → Row → Bool
same_row a b = start a == start b && (end a == end b && a.metric == b.metric)

-- how often a row is there; parallel rows each count (own)
abbrev pub times : List Row → Row → ℕ
times rows row = count_by (same_row row) rows

-- the graph has each row that may be walked as often as it is listed, no other row, and this root (ISO 10589 7.2.8)
pub record AreUsable (rows : List Row) (overloaded : List NodeId) (root : NodeId)
    (graph : GraphOf) : Type 0 where
  pub from : graph.root ≡ root
  pub rows_are : (row : Row) → times graph.rows row
      ≡ (if is_usable rows overloaded (node_number root) (start row) (end row) row.metric
      then times rows row else 0)
