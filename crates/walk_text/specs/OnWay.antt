-- A walk on its way. All of it own.
use Rattle.std.specs.Prelude.{◌≡◌, ℕ, List, map, length, slice_get, Option, Some}
use Rattle.std.specs.Option.{option_map}
use Rattle.isis_base.specs.declared.identifiers.SystemId.{SystemId}
use Rattle.spf_tree.specs.Nodes.{system_node}
use Rattle.model_router.specs.Places.{nth}
use Rattle.route_table.specs.declared.route.Route.{Route}
use Rattle.forward_views.specs.Walked.{RouterOf, IsRouteOf, AreMoves}
use Rattle.forward_views.specs.Looks.{Look, IsOwner}
use Rattle.forward_views.specs.Forwarded.{router_in}
use Rattle.walk_text.specs.Paths.{IsLeastPath}

-- the router at a place has a route of the prefix
pub record HasRouteAt (looks : List Look) (prefix place : ℕ) : Type 0 where
  pub look : Look
  pub at : nth looks place ≡ Some look
  pub route : Route
  pub has : IsRouteOf (router_in look) prefix route

-- the least next hops from one place on, to the owner
pub record EndsAtOwner (looks : List Look) (prefix from : ℕ) (places : List ℕ) : Type 0 where
  pub owner : Look
  pub owned : IsOwner looks prefix owner
  pub last : ℕ
  pub path : IsLeastPath looks prefix from places last
  pub ends : nth looks last ≡ Some owner

-- the least next hops from one place on so far, and the moves along them
pub record IsOnWay (looks : List Look) (prefix from : ℕ) (places : List ℕ) (place : ℕ) : Type 0 where
  pub first : Look
  pub first_at : nth looks from ≡ Some first
  pub here : Look
  pub here_at : nth looks place ≡ Some here
  pub moves : List (RouterOf × ℕ)
  pub are : AreMoves (map router_in looks) prefix (router_in first) moves (router_in here)
  pub many : length moves ≡ length places
  pub path : IsLeastPath looks prefix from places place

-- the first next hop of the route that the router at a place has of the prefix
abbrev pub IsHopAt : List Look → ℕ → ℕ → Option SystemId → Type 0
IsHopAt looks prefix place hop =
    (look : Look) (route : Route) → nth looks place ≡ Some look
    → IsRouteOf (router_in look) prefix route
    → option_map system_node hop ≡ slice_get route.hops 0
