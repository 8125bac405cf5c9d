-- What always holds of a router (own).
use Rattle.std.specs.Prelude.{◌≡◌, ◌≤◌, length, Option, IfSome}
use Rattle.model_router.specs.Sorted.{RisesFrom}
use Rattle.model_router.specs.Routers.{Router}
use Rattle.model_router.specs.AdjacencyLaws.{FollowsAdjacencies, AreBonds, AreIdle}
use Rattle.model_datagram.specs.Speakers.{IsSpeaking}
use Rattle.router_routes.specs.Outlooks.{outlook_of}
use Rattle.router_routes.specs.Following.{FollowingOf, IsFollowing}
use Rattle.router_core.specs.declared.marks.Marks.{Marks}
use Rattle.router_core.specs.Settled.{AreTrue}

-- Whatever it sends is legible; its books follow its adjacencies, a neighbour is kept exactly
-- outside Down, and CSNP counters stand at 0 where it isn't designated; there are 21 counters of
-- drops, at most 64 circuits, and at most 4,096 own prefixes, in order.
pub record IsReached (r : Router) : Type 0 where
  pub speaking : IsSpeaking r
  pub follows : FollowsAdjacencies r
  pub bonds : AreBonds r
  pub idle : AreIdle r
  pub drops : length r.drops ≡ 21
  pub circuits : length r.circuits ≤ 64
  pub few : length r.config.prefixes ≤ 4096
  pub prefixes : RisesFrom 0 r.config.prefixes

-- it is reached, its routes follow it where they are kept, and its marks are true
pub record IsWhole (r : Router) (kept : Option FollowingOf) (marks : Marks) : Type 0 where
  pub reached : IsReached r
  pub following : IfSome kept (IsFollowing (outlook_of r))
  pub marks_hold : AreTrue marks r
