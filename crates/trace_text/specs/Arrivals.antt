-- A packet that arrived (RFC 1195 3.10; the form: own).
use Rattle.std.specs.Prelude.{◌≡◌, ℕ, true, false, List, Some}
use Rattle.std.specs.List.{Contains}
use Rattle.model_router.specs.Places.{nth}
use Rattle.route_table.specs.declared.route.Route.{Route}
use Rattle.route_table.specs.Lookups.{IsLongest}
use Rattle.trace_core.specs.declared.outcomes.Outcomes.{Outcomes}
use Rattle.trace_core.specs.declared.step.End.TheVariants as ended
use Rattle.trace_core.specs.declared.step.Traced.{Traced}
use Rattle.forward_views.specs.Walked.{RouterOf, IsRouteOf}
use Rattle.forward_views.specs.Looks.{Look}
use Rattle.forward_views.specs.Forwarded.{router_in, IsReached}

-- at each router that has a route of the prefix, the address is looked up as that
abbrev pub AreFound : List Look → ℕ → ℕ → Type 0
AreFound looks prefix address =
    (look : Look) (route : Route) → Contains looks look → IsRouteOf (router_in look) prefix route
    → IsLongest look.routes address route

-- the packet came to the owner by moves along next hops of the prefix; so the costs of the moves and
-- of the owner's route are together the cost of the first one's route (IsReached.sum)
pub record IsArrived (looks : List Look) (prefix : ℕ) (owner : Look) (route : Route)
    (traced : Traced) : Type 0 where
  pub arrives : traced.end ≡ ended.Arrives
  pub last : ℕ
  pub there : Contains traced.places.items last
  pub at : nth looks last ≡ Some owner
  pub moves : List (RouterOf × ℕ)
  pub reached : IsReached looks prefix owner route moves (router_in owner)

-- it arrives, whichever next hops it takes
abbrev pub arrives_alone : Outcomes
arrives_alone = record { arrives = true; loops = false; lost = false }
