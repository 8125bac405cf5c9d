-- Rows as pairs of their ends, which are searched for the way back. All of it own.

use Rattle.std.specs.Prelude.{ℕ, ◌==◌, ◌&&◌, ◌||◌, Bool, not, List}
use Rattle.std.specs.List.{list_any}
use Rattle.std.specs.declared.cmp.Ordering.{Ordering}
use Rattle.std.specs.Ordering.{nat_cmp, ordering_then}
use Rattle.isis_base.specs.declared.identifiers.NodeId.{NodeId}
use Rattle.spf_tree.specs.declared.row.Row.{Row}
use Rattle.spf_tree.specs.Nodes.{node_number}
use Rattle.spf_tree.specs.Walks.{start, end}

-- whether these are the pair's ends
abbrev pub is_pair : ℕ → ℕ → ℕ × ℕ → Bool
is_pair a b pair = pair.0 == a && pair.1 == b

abbrev pub passes : List (ℕ × ℕ) → List (ℕ × ℕ) → ℕ → ℕ → ℕ → ℕ → Bool
passes pairs overloaded root from to metric =
    not (metric == 16777215)
    && (list_any (is_pair to from) pairs
    && (from == root || not (list_any (is_pair from 0) overloaded)))

abbrev pub row_passes : List (ℕ × ℕ) → List (ℕ × ℕ) → ℕ → Row → Bool
row_passes pairs overloaded root row = passes pairs overloaded root (start row) (end row) row.metric

-- the ends of a row
abbrev pub ends_of : Row → ℕ × ℕ
ends_of row = (start row, end row)

abbrev pub node_pair : NodeId → ℕ × ℕ
node_pair node = (node_number node, 0)

-- pairs in order
abbrev pub pair_cmp : ℕ × ℕ → ℕ × ℕ → Ordering
pair_cmp a b = ordering_then (nat_cmp a.0 b.0) (nat_cmp a.1 b.1)
