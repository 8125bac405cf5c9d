-- What is promised of a walk: it arrives, whichever next hops it takes, at the cost that the first router's route says (RFC 1195 3.10;
-- the form: own).
use Rattle.std.specs.Prelude.{◌≡◌, ◌≤◌, ℕ, List, [], ◌∷◌, map, Some}
use Rattle.std.specs.List.{Contains}
use Rattle.model_router.specs.Places.{nth}
use Rattle.route_table.specs.declared.route.Route.{Route}
use Rattle.forward_views.specs.Walked.{RouterOf, IsRouteOf, AreMoves}
use Rattle.forward_views.specs.Looks.{Look, root_of, IsOwner}
use Rattle.forward_views.specs.Forwarded.{router_in, IsReached}
use Rattle.walk_text.specs.declared.walked.Walked.{Walked}
use Rattle.walk_text.specs.Tests.{AreTested}

-- the least next hop of a route
pub record IsLeastHop (route : Route) (hop : ℕ) : Type 0 where
  pub there : Contains route.hops hop
  pub least : (other : ℕ) → Contains route.hops other → hop ≤ other

-- a move from a router to that of the least next hop of its route, both by their places
pub record IsLeastMove (looks : List Look) (prefix from to : ℕ) : Type 0 where
  pub here : Look
  pub next : Look
  pub from_is : nth looks from ≡ Some here
  pub to_is : nth looks to ≡ Some next
  pub route : Route
  pub has : IsRouteOf (router_in here) prefix route
  pub leads : IsLeastHop route (root_of next)

-- such moves one after another, to routers at these places
abbrev pub IsLeastPath : List Look → ℕ → ℕ → List ℕ → ℕ → Type 0
IsLeastPath looks prefix from [] to = to ≡ from
IsLeastPath looks prefix from (next ∷ places) to =
    IsLeastMove looks prefix from next × IsLeastPath looks prefix next places to

-- after any moves from the first router a packet stands where a route is left, at the cost that is left, and at
-- another router than the owner it goes on; so it ends at the owner alone, after fewer moves than there are routers
abbrev pub Arrives : List Look → ℕ → Look → Look → Route → Type 0
Arrives looks prefix owner first route =
    (moves : List (RouterOf × ℕ)) (to : RouterOf)
    → AreMoves (map router_in looks) prefix (router_in first) moves to
    → IsReached looks prefix owner route moves to

-- the walk that takes the least next hop each time
pub record IsWalked (looks : List Look) (from prefix : ℕ) (walked : Walked) : Type 0 where
  pub tested : AreTested looks
  pub owner : Look
  pub owned : IsOwner looks prefix owner
  pub first : Look
  pub at : nth looks from ≡ Some first
  pub route : Route
  pub has : IsRouteOf (router_in first) prefix route
  pub cost : walked.cost ≡ route.cost
  pub arrives : Arrives looks prefix owner first route
  pub last : ℕ
  pub path : IsLeastPath looks prefix from walked.routers.items last
  pub ends : nth looks last ≡ Some owner
