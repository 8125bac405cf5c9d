use Rattle.std.proofs.Common.{◌≡◌, ◌<◌, ℕ, List, Some}
use Rattle.model_router.specs.Places.{nth}
use Rattle.forward_views.specs.Looks.{Look}
use Rattle.walk_text.specs.Tests.{AreLooks}
use Rattle.walk_text.proofs.test.first_without.Given as goal

-- the routers so far have it
abbrev pub invariant-loop-place : goal.invariant-loop-place
invariant-loop-place g l =
    (looks : List Look) → AreLooks l.network.seen.routers looks
    → (q : ℕ) (look : Look) → q < l.place → nth looks q ≡ Some look → g.T.Test.has l.test look
