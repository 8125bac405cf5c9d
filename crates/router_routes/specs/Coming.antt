-- What will follow a router, before it stands in the place of what does. All of it own.
use Rattle.std.specs.Prelude.{◌≡◌, ◌↔◌, ℕ, true, List, [], Option, Some, None}
use Rattle.std.specs.List.{Contains}
use Rattle.isis_base.specs.declared.identifiers.NodeId.{NodeId}
use Rattle.isis_base.specs.declared.level.Level.TheVariants as level
use Rattle.isis_base.specs.Identifiers.{IsId}
use Rattle.spf_tree.specs.Nodes.{node_number}
use Rattle.spf_tree.specs.Distances.{cost_at}
use Rattle.spf_repair.specs.Changes.{RepairedOf}
use Rattle.route_table.specs.declared.route.Route.{Route}
use Rattle.route_table.specs.Patches.{Fits, IsPatched, PatchesOf}
use Rattle.router_routes.specs.declared.coming.Coming.{Coming}
use Rattle.router_routes.specs.declared.coming.LevelAfter.{LevelAfter}
use Rattle.router_routes.specs.declared.coming.LevelsAfter.{LevelsAfter}
use Rattle.router_routes.specs.declared.coming.ReachedAfter.{ReachedAfter}
use Rattle.router_routes.specs.Outlooks.{Outlook}
use Rattle.router_routes.specs.Candidates.{AreRoutesOf, attached_of, ways_of}
use Rattle.router_routes.specs.Kept.{AreBeside, CostBeside}
use Rattle.router_routes.specs.Ways.{AreWays, HaveRoom, put_all}
use Rattle.router_routes.specs.Moved.{AreNodes, is_among, or_old}
use Rattle.router_routes.specs.Counts.{Counts}
use Rattle.router_routes.specs.Following.{AreHopsOf, FollowingOf, IsFollowing, IsLevel}

-- ---- levels

-- old and new costs of a level are from one node, and so are their graphs
pub record AreOfOneRoot (old new : RepairedOf) : Type 0 where
  pub old_root : old.graph.root ≡ old.root
  pub new_root : new.graph.root ≡ new.root
  pub same : new.root ≡ old.root

-- a level's new costs, or else the old ones
abbrev pub costs_after : Option LevelAfter → RepairedOf → RepairedOf
costs_after None old = old
costs_after (Some new) old = new.costs

-- its new next hops, or else the old ones
abbrev pub hops_after : Option LevelAfter → List (ℕ × ℕ) → List (ℕ × ℕ)
hops_after None old = old
hops_after (Some new) old = new.hops

-- the nodes whose costs may be others, and those whose next hops may be; none where a level stays
abbrev pub moved_in : Option LevelAfter → List ℕ
moved_in None = []
moved_in (Some new) = new.moved.items

abbrev pub apart_in : Option LevelAfter → List ℕ
apart_in None = []
apart_in (Some new) = new.apart.items

-- the nodes of these numbers are there
abbrev pub HaveNumbers : List ℕ → List NodeId → Type 0
HaveNumbers numbers nodes = (m : NodeId) → IsId (record { node = m; number = 0 })
    → Contains numbers (node_number m) → is_among nodes (node_number m) ≡ true

-- nodes of other numbers cost the same
pub record CostsStay (beside : List ℕ) (old new : List (ℕ × ℕ)) : Type 0 where
  pub each : (node : ℕ) → (Contains beside node → ⊥) → cost_at old node ≡ cost_at new node

-- nodes of other numbers have the same next hops in two tables
pub record HopsStay (beside : List ℕ) (old new : List (ℕ × ℕ)) : Type 0 where
  pub each : (target hop : ℕ) → (Contains beside target → ⊥)
      → Contains old (target, hop) ↔ Contains new (target, hop)

-- where costs are new, they had one change if rows are others, and else none
abbrev pub HasCount : RepairedOf → Option LevelAfter → Type 0
HasCount old None = Unit {0}
HasCount old (Some new) = Counts old new.costs

-- a level's next hops follow of its costs, and what is other of both is told
pub record IsLevelAfter (old : RepairedOf) (known : List (ℕ × ℕ)) (level : Option LevelAfter) : Type 0 where
  pub right : AreHopsOf (costs_after level old) (hops_after level known)
  pub moved : CostsStay (moved_in level) old.distances (costs_after level old).distances
  pub apart : HopsStay (apart_in level) known (hops_after level known)
  pub counts : HasCount old level

-- both levels will be right by these
pub record AreLevels (o : Outlook) (f : FollowingOf) (levels : LevelsAfter) : Type 0 where
  pub one : IsLevel o level.One (costs_after levels.one f.levels.one)
  pub two : IsLevel o level.Two (costs_after levels.two f.levels.two)
  pub hops_one : IsLevelAfter f.levels.one f.hops.one levels.one
  pub hops_two : IsLevelAfter f.levels.two f.hops.two levels.two

-- levels by these costs, each where it has new ones, with the next hops that follow of them
pub record AreLevelsOf (f : FollowingOf) (ones twos : Option RepairedOf) (levels : LevelsAfter) : Type 0 where
  pub one : costs_after levels.one f.levels.one ≡ or_old ones f.levels.one
  pub two : costs_after levels.two f.levels.two ≡ or_old twos f.levels.two
  pub hops_one : IsLevelAfter f.levels.one f.hops.one levels.one
  pub hops_two : IsLevelAfter f.levels.two f.hops.two levels.two

-- where these nodes moved, both levels will be right by these, and other nodes cost what they did
pub record AreLevelsBeside (nodes : List NodeId) (o p : Outlook) (f : FollowingOf)
    (levels : LevelsAfter) : Type 0 where
  pub beside : AreBeside nodes o p
  pub ids : AreNodes nodes
  pub costs_one : CostBeside nodes f.levels.one.distances (costs_after levels.one f.levels.one).distances
  pub costs_two : CostBeside nodes f.levels.two.distances (costs_after levels.two f.levels.two).distances
  pub right : AreLevels p f levels

-- ---- what is reached

-- once its rows are put in, this is what is reached, and there is room for them
pub record AreReachedAfter (o : Outlook) (f : FollowingOf) (reached : ReachedAfter) : Type 0 where
  pub told : AreWays (put_all f.told.rows reached.told.rows) (ways_of o)
  pub room : HaveRoom f.told reached.told
  pub attached : reached.attached ≡ attached_of o

-- ---- routes

-- routes that are right once these patches are put in
pub record AreRoutesAfter (o : Outlook) (old : List Route) (patches : PatchesOf) : Type 0 where
  pub fits : Fits old patches
  pub right : (new : List Route) → IsPatched old patches.list new → AreRoutesOf o new

-- ---- all of it

-- there is room for the routes and the candidates that come
pub record FitsIn (f : FollowingOf) (c : Coming) : Type 0 where
  pub routes : Fits f.routes c.routes
  pub told : HaveRoom f.told c.told

-- what follows a router once this has come
pub record IsPut (old : FollowingOf) (c : Coming) (new : FollowingOf) : Type 0 where
  pub one : new.levels.one ≡ costs_after c.one old.levels.one
  pub two : new.levels.two ≡ costs_after c.two old.levels.two
  pub hops_one : new.hops.one ≡ hops_after c.one old.hops.one
  pub hops_two : new.hops.two ≡ hops_after c.two old.hops.two
  pub routes : IsPatched old.routes c.routes.list new.routes
  pub attached : new.attached ≡ c.attached
  pub told : new.told.rows ≡ put_all old.told.rows c.told.rows

-- once this has come, what follows a router follows what routes look at
pub record IsComing (o : Outlook) (f : FollowingOf) (c : Coming) : Type 0 where
  pub fits : FitsIn f c
  pub follows : (g : FollowingOf) → IsPut f c g → IsFollowing o g
  pub count_one : HasCount f.levels.one c.one
  pub count_two : HasCount f.levels.two c.two
