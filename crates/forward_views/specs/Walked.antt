-- Walks of a packet along routers' routes (RFC 1195 3.10; the form: own).
use Rattle.std.specs.Prelude.{◌≡◌, ℕ, ◌+◌, ◌≤◌, List, [], ◌∷◌}
use Rattle.std.specs.List.{Contains}
use Rattle.isis_base.specs.declared.identifiers.NodeId.{NodeId}
use Rattle.spf_tree.specs.declared.row.Row.{Row}
use Rattle.spf_tree.specs.Graphs.{GraphOf}
use Rattle.spf_tree.specs.Nodes.{node_number}
use Rattle.spf_tree.specs.Walks.{start}
use Rattle.route_table.specs.declared.candidate.Candidate.{Candidate}
use Rattle.route_table.specs.declared.route.Route.{Route}
use Rattle.route_table.specs.Ranks.{prefix_number}
use Rattle.route_table.specs.Routes.{IsHopTo, AreRoutes}
use Rattle.forward_views.specs.Moves.{usable_from, IsMoveCost}
use Rattle.forward_views.specs.Owned.{IsAt}

-- what is looked at of a router: its graphs, and the routes made of its candidates (own)
pub record RouterOf : Type 0 where
  pub one : GraphOf
  pub two : GraphOf
  pub candidates : List Candidate
  pub routes : List Route

abbrev pub root_of : RouterOf → ℕ
root_of router = node_number router.one.root

-- the routers have the same rows, none of metric 0 from a router, tell one owner of the prefix at
-- one metric, and no two have one node (own)
pub record Agree (rows : List Row) (overloaded : List NodeId) (prefix owner metric : ℕ)
    (routers : List RouterOf) : Type 0 where
  pub rows_are : (r : RouterOf) → Contains routers r
      → r.one.rows ≡ usable_from rows overloaded (root_of r)
  pub at : (r : RouterOf) → Contains routers r → IsAt r.one r.candidates prefix owner metric
  pub routes_are : (r : RouterOf) → Contains routers r
      → AreRoutes (IsHopTo r.one r.two) r.candidates r.routes
  pub one_each : (a b : RouterOf) → Contains routers a → Contains routers b
      → root_of a ≡ root_of b → a ≡ b
  pub none_zero : (r : RouterOf) (row : Row) → Contains routers r → Contains rows row
      → start row ≡ root_of r → 1 ≤ row.metric

-- a router's route of the prefix (own)
abbrev pub IsRouteOf : RouterOf → ℕ → Route → Type 0
IsRouteOf router prefix route =
    Contains router.routes route × (prefix_number route.prefix ≡ prefix)

-- a move goes from a router to the router of one of its route's next hops (own)
pub record IsMove (routers : List RouterOf) (prefix : ℕ) (from to : RouterOf)
    (cost : ℕ) : Type 0 where
  pub route : Route
  pub is : IsRouteOf from prefix route
  pub leads : Contains route.hops (root_of to)
  pub there : Contains routers to
  pub moved : IsMoveCost from.one.rows (root_of from) (root_of to) cost

-- moves one after another, the first first, each with the router that it goes to and its cost (own)
abbrev pub AreMoves : List RouterOf → ℕ → RouterOf → List (RouterOf × ℕ) → RouterOf → Type 0
AreMoves routers prefix from [] to = to ≡ from
AreMoves routers prefix from (move ∷ moves) to =
    IsMove routers prefix from move.0 move.1 × AreMoves routers prefix move.0 moves to

-- what moves cost together (own)
abbrev pub costs_of : List (RouterOf × ℕ) → ℕ
costs_of [] = 0
costs_of (move ∷ moves) = move.1 + costs_of moves
