-- What a router keeps of its graphs and routes, and when that is right (own).
use Rattle.std.specs.Prelude.{◌≡◌, ◌↔◌, ℕ, Bool, List}
use Rattle.std.specs.List.{Contains}
use Rattle.isis_base.specs.declared.level.Level.{Level}
use Rattle.isis_base.specs.declared.level.Level.TheVariants as level
use Rattle.spf_tree.specs.Nodes.{node_number}
use Rattle.spf_tree.specs.NextHops.{IsNextHop}
use Rattle.spf_repair.specs.Changes.{RepairedOf}
use Rattle.model_router.specs.Both.{Both}
use Rattle.route_table.specs.declared.route.Route.{Route}
use Rattle.router_routes.specs.Outlooks.{Outlook, IsGraph}
use Rattle.router_routes.specs.Candidates.{AreRoutesOf, attached_of, ways_of}
use Rattle.router_routes.specs.Ways.{AreWays, WaysOf}

-- each level's repaired distances, and its nodes beside their next hops; the routes, whether the router is attached, and by prefix
-- what both levels tell
pub record FollowingOf : Type 0 where
  pub levels : Both RepairedOf
  pub hops : Both (List (ℕ × ℕ))
  pub routes : List Route
  pub attached : Bool
  pub told : WaysOf

-- a level's distances are from the router's own node over the rows that may be walked
pub record IsLevel (o : Outlook) (level : Level) (repaired : RepairedOf) : Type 0 where
  pub root : repaired.root ≡ o.root
  pub graph : IsGraph o level repaired.graph

-- the pairs are each node beside each of its next hops from the root of a level's graph (RFC 1195 3.10)
pub record AreHopsOf (repaired : RepairedOf) (pairs : List (ℕ × ℕ)) : Type 0 where
  pub each : (target hop : ℕ) → Contains pairs (target, hop)
      ↔ IsNextHop repaired.graph.rows (node_number repaired.graph.root) target hop

-- all is that of what routes look at
pub record IsFollowing (o : Outlook) (f : FollowingOf) : Type 0 where
  pub one : IsLevel o level.One f.levels.one
  pub two : IsLevel o level.Two f.levels.two
  pub hops_one : AreHopsOf f.levels.one f.hops.one
  pub hops_two : AreHopsOf f.levels.two f.hops.two
  pub routes : AreRoutesOf o f.routes
  pub attached : f.attached ≡ attached_of o
  pub told : AreWays f.told.rows (ways_of o)
