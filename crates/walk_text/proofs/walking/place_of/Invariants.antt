use Rattle.std.proofs.Common.{◌≡◌, ◌≢◌, ◌<◌, ℕ, Some}
use Rattle.model_router.specs.Places.{nth}
use Rattle.model_router.specs.Routers.{Router}
use Rattle.spf_tree.specs.Nodes.{system_node}
use Rattle.walk_text.specs.Foreign.{node_of}
use Rattle.walk_text.proofs.walking.place_of.Given as goal

-- none of the routers so far is it
abbrev pub invariant-loop-place : goal.invariant-loop-place
invariant-loop-place l =
    (q : ℕ) (r : Router) → q < l.place → nth l.network.seen.routers q ≡ Some r → node_of r ≢ system_node l.fn.system
