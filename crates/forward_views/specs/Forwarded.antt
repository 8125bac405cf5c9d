-- Walks of a packet over what is looked at of routers (RFC 1195 3.10; the form: own).
use Rattle.std.specs.Prelude.{◌≡◌, ◌≢◌, ℕ, ◌+◌, ◌<◌, List, map, length}
use Rattle.std.specs.List.{Contains}
use Rattle.isis_base.specs.declared.identifiers.NodeId.{NodeId}
use Rattle.spf_tree.specs.declared.row.Row.{Row}
use Rattle.route_table.specs.declared.route.Route.{Route}
use Rattle.route_table.specs.Ranks.{rank_number}
use Rattle.router_routes.specs.Outlooks.{graph_in}
use Rattle.router_routes.specs.Candidates.{candidates_of}
use Rattle.forward_views.specs.Walked.{RouterOf, Agree, IsRouteOf, IsMove, costs_of}
use Rattle.forward_views.specs.Looks.{Look, outlook, root_of, told_of}

-- a router with its graphs and candidates (RFC 5302 3.2)
abbrev pub router_in : Look → RouterOf
router_in look = record {
  one = graph_in (told_of look) (outlook look).root;
  two = graph_in (outlook look).told.two (outlook look).root;
  candidates = candidates_of (outlook look);
  routes = look.routes;
}

-- the routers have rows, overloaded nodes and an owner's metric in common (own)
pub record DoAgree (looks : List Look) (prefix : ℕ) (owner : Look) : Type 0 where
  pub rows : List Row
  pub overloaded : List NodeId
  pub metric : ℕ
  pub agree : Agree rows overloaded prefix (root_of owner) metric (map router_in looks)

-- a next hop is the node of another of the routers (own)
abbrev pub IsNext : List Look → Look → ℕ → Look → Type 0
IsNext looks look hop next =
    Contains looks next × (root_of next ≡ hop) × (root_of next ≢ root_of look)

-- where a packet stands after moves from a router with this route: the router has a route as well,
-- which the owner alone has as its own; what the moves cost and what it has left are together the
-- cost of the first route; and there were fewer moves than there are routers (own)
pub record IsReached (looks : List Look) (prefix : ℕ) (owner : Look) (route : Route)
    (moves : List (RouterOf × ℕ)) (to : RouterOf) : Type 0 where
  pub at : Look
  pub there : Contains looks at
  pub is : to ≡ router_in at
  pub last : Route
  pub has : IsRouteOf to prefix last
  pub sum : route.cost ≡ costs_of moves + last.cost
  pub few : length moves < length looks
  pub home : at ≡ owner → rank_number last.rank ≡ 0
  pub goes_on : at ≢ owner → (hop : ℕ) × Contains last.hops hop
  pub onward : at ≢ owner → (hop : ℕ) → Contains last.hops hop
      → (next : Look) × IsNext looks at hop next
      × ((cost : ℕ) × IsMove (map router_in looks) prefix to (router_in next) cost)
