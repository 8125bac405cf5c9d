use Rattle.std.proofs.Common.{◌≡◌, ◌<◌, ℕ, List, take, Some}
use Rattle.model_router.specs.Places.{nth}
use Rattle.model_router.specs.Routers.{Router}
use Rattle.router_core.specs.Reached.{IsReached}
use Rattle.forward_views.specs.Looks.{Look}
use Rattle.walk_text.specs.Tests.{AreLooks}
use Rattle.walk_text.proofs.answer.facts_of.Given as goal

-- the routers so far, with their routes
abbrev pub invariant-loop-place : goal.invariant-loop-place
invariant-loop-place l =
    ((looks : List Look) × AreLooks (take l.place l.network.seen.routers) looks)
    × ((i : ℕ) (r : Router) → i < l.place → nth l.network.seen.routers i ≡ Some r → IsReached r)
