-- Nodes by their places among all nodes in order, and rows by the places of their ends. All of it own.

use Rattle.std.specs.Prelude.{◌≡◌, ℕ, ◌+◌, ◌-◌, ◌≤◌, ◌<◌, List, map, length, slice_index_or}
use Rattle.std.specs.List.{Contains}
use Rattle.spf_tree.specs.declared.row.Row.{Row}
use Rattle.spf_tree.specs.declared.edge.Edge.{Edge}
use Rattle.spf_tree.specs.declared.edge.Ends.{Ends}
use Rattle.spf_tree.specs.declared.edge.Span.{Span}
use Rattle.spf_tree.specs.Walks.{start, end}
use Rattle.spf_tree.specs.Search.{IsSearchKept}

-- the node at a place
abbrev pub node_at : List ℕ → ℕ → ℕ
node_at nodes place = slice_index_or nodes place 0

-- the nodes at places
abbrev pub nodes_at : List ℕ → List ℕ → List ℕ
nodes_at nodes places = map (node_at nodes) places

-- each is the place of a node
pub record ArePlaces (nodes places : List ℕ) : Type 0 where
  pub within : (place : ℕ) → Contains places place → place < length nodes

-- what is offered to a place, as an offer to its node
abbrev pub offer_at : List ℕ → ℕ × ℕ → ℕ × ℕ
offer_at nodes offer = (offer.0, node_at nodes offer.1)

abbrev pub offers_at : List ℕ → List (ℕ × ℕ) → List (ℕ × ℕ)
offers_at nodes queue = map (offer_at nodes) queue

-- each offer is to a place of a node
pub record AreToPlaces (nodes : List ℕ) (queue : List (ℕ × ℕ)) : Type 0 where
  pub within : (offer : ℕ × ℕ) → Contains queue offer → offer.1 < length nodes

-- the edge tells where the row ends, and its metric
pub record IsEdge (nodes : List ℕ) (row : Row) (edge : Edge) : Type 0 where
  pub within : edge.place < length nodes
  pub node : node_at nodes edge.place ≡ end row
  pub metric : edge.metric ≡ row.metric

-- a node's place
pub record IsPlaceOf (nodes : List ℕ) (node place : ℕ) : Type 0 where
  pub within : place < length nodes
  pub node_is : node_at nodes place ≡ node

-- the places of the first so many nodes among others
pub record AreAmong (nodes old places : List ℕ) (many : ℕ) : Type 0 where
  pub long : length places ≡ many
  pub each : (k p : ℕ) → k < many → IsPlaceOf nodes (node_at old k) (slice_index_or places k p)

-- the edges of the first so many rows
pub record AreEdges (nodes : List ℕ) (rows : List Row) (edges : List Edge) (many : ℕ) : Type 0 where
  pub long : length edges ≡ many
  pub each : (k : ℕ) (d : Row) (e : Edge) → k < many
      → IsEdge nodes (slice_index_or rows k d) (slice_index_or edges k e)

-- so many first rows are the first old ones, and so many last rows the last old ones
pub record HaveEnds (old rows : List Row) (ends : Ends) : Type 0 where
  pub within : ends.first + ends.last ≤ length rows
  pub within_old : ends.first + ends.last ≤ length old
  pub first : (k : ℕ) (d : Row) → k < ends.first → slice_index_or rows k d ≡ slice_index_or old k d
  pub last : (k : ℕ) (d : Row) → k < ends.last
      → slice_index_or rows (length rows - ends.last + k) d ≡ slice_index_or old (length old - ends.last + k) d

-- the rows before a place start below the node, those from it on don't
pub record IsFirst (rows : List Row) (place node : ℕ) : Type 0 where
  pub within : place ≤ length rows
  pub below : (k : ℕ) (d : Row) → k < place → start (slice_index_or rows k d) < node
  pub above : (k : ℕ) (d : Row) → place ≤ k → k < length rows
      → node ≤ start (slice_index_or rows k d)

-- the rows of a span are those that start at the node
pub record IsSpan (rows : List Row) (node : ℕ) (span : Span) : Type 0 where
  pub first : IsFirst rows span.first node
  pub order : span.first ≤ span.past
  pub within : span.past ≤ length rows
  pub here : (k : ℕ) (d : Row) → k < span.past → start (slice_index_or rows k d) ≤ node
  pub above : (k : ℕ) (d : Row) → span.past ≤ k → k < length rows
      → node < start (slice_index_or rows k d)

-- the spans of the first so many nodes
pub record AreSpans (nodes : List ℕ) (rows : List Row) (spans : List Span) (many : ℕ) : Type 0 where
  pub long : length spans ≡ many
  pub each : (k : ℕ) (e : Span) → k < many
      → IsSpan rows (node_at nodes k) (slice_index_or spans k e)

-- rows and nodes, as a graph keeps them
pub record IndexedOf : Type 0 where
  pub rows : List Row
  pub nodes : List ℕ

-- the same, with the edge of each row
pub record IsIndexed (rows : List Row) (nodes : List ℕ) (edges : List Edge) : Type 0 where
  pub kept : IsSearchKept rows nodes
  pub row_edges : AreEdges nodes rows edges (length rows)
