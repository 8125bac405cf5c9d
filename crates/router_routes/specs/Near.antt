-- The rows that start or end at one node. All of it own.
use Rattle.std.specs.Prelude.{◌≡◌, ℕ, ◌==◌, ◌&&◌, ◌||◌, Bool, false, not, List, [], ◌∷◌, ◌++◌, filter, map, if◌then◌else◌}
use Rattle.std.specs.List.{flat_map, list_any, count_by}
use Rattle.isis_base.specs.declared.identifiers.NodeId.{NodeId}
use Rattle.isis_base.specs.declared.identifiers.LspId.{LspId}
use Rattle.lsp_store.specs.declared.entry.Entry.{Entry}
use Rattle.lsp_view.specs.Views.{rows_in, overloaded_in}
use Rattle.spf_tree.specs.declared.row.Row.{Row}
use Rattle.spf_tree.specs.Nodes.{node_number}
use Rattle.spf_tree.specs.Walks.{start, end}
use Rattle.spf_tree.specs.Graphs.{GraphOf, is_usable, is_overloaded, times}

-- whether a row starts or ends at a node
abbrev pub touches : ℕ → Row → Bool
touches node row = start row == node || end row == node

abbrev pub rows_from : ℕ → List Row → List Row
rows_from node rows = filter (λ (row : Row). start row == node) rows

abbrev pub rows_to : ℕ → List Row → List Row
rows_to node rows = filter (λ (row : Row). end row == node) rows

-- the ends of rows that aren't the node
abbrev pub other_ends : ℕ → List Row → List NodeId
other_ends node rows = map (λ (row : Row). row.to) (filter (λ (row : Row). not (end row == node)) rows)

-- whether the first of these nodes is the node
abbrev pub is_first : NodeId → List NodeId → Bool
is_first node [] = false
is_first node (first ∷ nodes) = node_number node == node_number first

-- each of some nodes in order once
abbrev pub once_each : List NodeId → List NodeId
once_each [] = []
once_each (node ∷ nodes) = if is_first node nodes then once_each nodes else node ∷ once_each nodes

-- each end of some rows beside the node once
abbrev pub AreEnds : ℕ → List Row → List NodeId → Type 0
AreEnds node rows ends =
    (n : ℕ) → count_by (λ (other : NodeId). node_number other == n) ends
    ≡ (if not (n == node) && list_any (λ (row : Row). end row == n) rows then 1 else 0)

-- a node's own rows, and those that lead to it from some other nodes
unfoldable pub near_rows : ℕ → List Row → List NodeId → List Row → List Row
near_rows node mine ends rows =
    mine ++ flat_map (λ (other : NodeId). rows_to node (rows_from (node_number other) rows)) ends

-- of a node and of some others, those that are overloaded
unfoldable pub near_overloaded : NodeId → Bool → List NodeId → List NodeId → List NodeId
near_overloaded node is ends overloaded =
    (if is then node ∷ [] else [])
    ++ filter (λ (other : NodeId). is_overloaded overloaded (node_number other)) ends

-- a graph has the rows that may be walked and that start or end at the node, each as often, and no other
abbrev pub IsNear : List (LspId × Entry) → NodeId → NodeId → GraphOf → Type 0
IsNear told root node graph =
    (row : Row) → times graph.rows row
    ≡ (if touches (node_number node) row && is_usable (rows_in told) (overloaded_in told)
    (node_number root) (start row) (end row) row.metric then times (rows_in told) row else 0)
