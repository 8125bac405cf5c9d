-- What will follow a router, by its parts.
use Rattle.std.proofs.Common.{◌≡◌, ◌∙◌, ◌↔◌, ℕ, List, [], Option, None, Some, refl, sym, ap, subst}
use Rattle.std.specs.Prelude.{IfSome, MatchOption}
use Rattle.std.specs.List.{Contains}
use Rattle.isis_base.specs.declared.identifiers.NodeId.{NodeId}
use Rattle.isis_base.specs.declared.level.Level.{Level}
use Rattle.isis_base.specs.declared.level.Level.TheVariants as level
use Rattle.spf_tree.specs.Distances.{cost_at}
use Rattle.spf_tree.specs.Graphs.{GraphOf}
use Rattle.spf_tree.specs.NextHops.{IsNextHop}
use Rattle.spf_tree.specs.Nodes.{node_number}
use Rattle.spf_tree.proofs.SearchLemmas.{contains_none}
use Rattle.spf_repair.specs.Changes.{RepairedOf}
use Rattle.route_table.specs.declared.candidate.Candidate.{Candidate}
use Rattle.router_routes.specs.declared.coming.Coming.{Coming}
use Rattle.router_routes.specs.declared.coming.LevelAfter.{LevelAfter}
use Rattle.router_routes.specs.declared.coming.LevelsAfter.{LevelsAfter}
use Rattle.router_routes.specs.declared.coming.ReachedAfter.{ReachedAfter}
use Rattle.router_routes.specs.Outlooks.{Outlook}
use Rattle.router_routes.specs.Candidates.{ways_of}
use Rattle.router_routes.specs.Counts.{Counts}
use Rattle.router_routes.specs.Following.{AreHopsOf, FollowingOf, IsFollowing, IsLevel}
use Rattle.router_routes.specs.Kept.{AreAmong, AreBeside, CostBeside}
use Rattle.router_routes.specs.Ways.{AreWays, HaveRoom, RowsOf, put_all}
use Rattle.router_routes.specs.Moved.{AreNodes, or_old}
use Rattle.router_routes.specs.Coming.{AreLevels, AreLevelsBeside, AreLevelsOf, AreOfOneRoot, AreRoutesAfter, CostsStay, FitsIn, HaveNumbers, HopsStay, IsComing, IsLevelAfter, costs_after, hops_after, moved_in, AreReachedAfter}
use Rattle.router_routes.proofs.SameLemmas.{beside-more, cost-apart, cost-refl}

hops-of : (a b : RepairedOf) (s t : List (ℕ × ℕ)) → a ≡ b → s ≡ t → AreHopsOf b t → AreHopsOf a s
hops-of a b s t e g are = subst (λ (r : RepairedOf). AreHopsOf r s) (sym e) (subst (λ (l : List (ℕ × ℕ)). AreHopsOf b l) (sym g) are)

pub coming-is : (o : Outlook) (f : FollowingOf) (c : Coming) (after : ReachedAfter) → after.told ≡ c.told → after.attached ≡ c.attached → AreLevels o f (record { one = c.one; two = c.two }) → AreReachedAfter o f after → AreRoutesAfter o f.routes c.routes → IsComing o f c
coming-is o f c after told bit are reached routes =
    record {
      fits = record { routes = routes.fits; told = subst (HaveRoom f.told) told reached.room };
      follows = λ g put. record {
        one = subst (λ (r : RepairedOf). IsLevel o level.One r) (sym put.one) are.one;
        two = subst (λ (r : RepairedOf). IsLevel o level.Two r) (sym put.two) are.two;
        hops_one = hops-of g.levels.one (costs_after c.one f.levels.one) g.hops.one (hops_after c.one f.hops.one) put.one put.hops_one are.hops_one.right;
        hops_two = hops-of g.levels.two (costs_after c.two f.levels.two) g.hops.two (hops_after c.two f.hops.two) put.two put.hops_two are.hops_two.right;
        routes = routes.right g.routes put.routes;
        attached = put.attached ∙ sym bit ∙ reached.attached;
        told = subst (λ (rows : List (ℕ × List Candidate)). AreWays rows (ways_of o)) (ap (λ (a : RowsOf). put_all f.told.rows a.rows) told ∙ sym put.told) reached.told;
      };
      count_one = are.hops_one.counts;
      count_two = are.hops_two.counts;
    }

-- all that is reached stays
pub all-stays : (o : Outlook) (f : FollowingOf) (reached : ReachedAfter) → reached.told.rows ≡ [] → AreReachedAfter o f reached → AreWays f.told.rows (ways_of o)
all-stays o f reached none are = subst (λ (rows : List (ℕ × List Candidate)). AreWays (put_all f.told.rows rows) (ways_of o)) none are.told

-- there is room for what comes
pub next-fits : (o : Outlook) (f : FollowingOf) (next : Option Coming) → MatchOption next (IsFollowing o f) (λ c. IsComing o f c) → IfSome next (λ c. FitsIn f c)
next-fits o f None follows = tt
next-fits o f (Some c) comes = comes.fits

-- ---- levels

-- a level's costs and graph are from one node
pub level-root : (o : Outlook) (l : Level) (r : RepairedOf) → IsLevel o l r → r.graph.root ≡ r.root
level-root o l r is = is.graph.from ∙ sym is.root

-- costs of two outlooks with one root
pub of-one-root : (o p : Outlook) (l : Level) (old new : RepairedOf) → IsLevel o l old → IsLevel p l new → p.root ≡ o.root → AreOfOneRoot old new
of-one-root o p l old new a b e = record { old_root = level-root o l old a; new_root = level-root p l new b; same = b.root ∙ e ∙ sym a.root }

pub levels-are : (o : Outlook) (f : FollowingOf) (ones twos : Option RepairedOf) (levels : LevelsAfter) → IsLevel o level.One (or_old ones f.levels.one) → IsLevel o level.Two (or_old twos f.levels.two) → AreLevelsOf f ones twos levels → AreLevels o f levels
levels-are o f ones twos levels a b are =
    record {
      one = subst (λ (r : RepairedOf). IsLevel o level.One r) (sym are.one) a;
      two = subst (λ (r : RepairedOf). IsLevel o level.Two r) (sym are.two) b;
      hops_one = are.hops_one;
      hops_two = are.hops_two;
    }

-- a level that stays
pub level-stays : (old : RepairedOf) (known : List (ℕ × ℕ)) → AreHopsOf old known → IsLevelAfter old known None
level-stays old known are =
    record {
      right = are;
      moved = record { each = λ node out. refl };
      apart = record { each = λ target hop out. ((λ h. h), (λ h. h)) };
      counts = tt;
    }

-- a level of new costs and hops, as it is put together
pub level-with : (old new : RepairedOf) (known table : List (ℕ × ℕ)) (apart moved : List ℕ) (level : LevelAfter) → level.costs ≡ new → level.hops ≡ table → level.apart.items ≡ apart → level.moved.items ≡ moved → AreHopsOf new table → HopsStay apart known table → CostsStay moved old.distances new.distances → Counts old new → IsLevelAfter old known (Some level)
level-with old new known table apart moved level costs hops inside others right stay same counts =
    record {
      right = hops-of level.costs new level.hops table costs hops right;
      moved = subst (λ (l : List ℕ). CostsStay l old.distances level.costs.distances) (sym others) (subst (λ (r : RepairedOf). CostsStay moved old.distances r.distances) (sym costs) same);
      apart = subst (λ (l : List ℕ). HopsStay l known level.hops) (sym inside) (subst (λ (t : List (ℕ × ℕ)). HopsStay apart known t) (sym hops) stay);
      counts = subst (Counts old) (sym costs) counts;
    }

-- where no level has new costs
pub levels-stay : (o p : Outlook) (f : FollowingOf) (nodes : List NodeId) (levels : LevelsAfter) → levels.one ≡ None → levels.two ≡ None → IsFollowing o f → AreNodes nodes → AreBeside nodes o p → IsLevel p level.One f.levels.one → IsLevel p level.Two f.levels.two → AreLevelsBeside nodes o p f levels
levels-stay o p f nodes levels a b is ids beside one two =
    let first : costs_after levels.one f.levels.one ≡ f.levels.one = ap (λ (q : Option LevelAfter). costs_after q f.levels.one) a in
    let second : costs_after levels.two f.levels.two ≡ f.levels.two = ap (λ (q : Option LevelAfter). costs_after q f.levels.two) b in
    record {
      beside = beside;
      ids = ids;
      costs_one = subst (λ (r : RepairedOf). CostBeside nodes f.levels.one.distances r.distances) (sym first) (cost-refl nodes f.levels.one.distances);
      costs_two = subst (λ (r : RepairedOf). CostBeside nodes f.levels.two.distances r.distances) (sym second) (cost-refl nodes f.levels.two.distances);
      right = record {
        one = subst (λ (r : RepairedOf). IsLevel p level.One r) (sym first) one;
        two = subst (λ (r : RepairedOf). IsLevel p level.Two r) (sym second) two;
        hops_one = subst (λ (q : Option LevelAfter). IsLevelAfter f.levels.one f.hops.one q) (sym a) (level-stays f.levels.one f.hops.one is.hops_one);
        hops_two = subst (λ (q : Option LevelAfter). IsLevelAfter f.levels.two f.hops.two q) (sym b) (level-stays f.levels.two f.hops.two is.hops_two);
      };
    }

-- the nodes that moved, as they are told apart
pub levels-beside : (some nodes all : List NodeId) (o p : Outlook) (f : FollowingOf) (levels : LevelsAfter) → all ≡ nodes → AreAmong some nodes → AreNodes nodes → AreBeside some o p
    → HaveNumbers (moved_in levels.one) nodes → HaveNumbers (moved_in levels.two) nodes → AreLevels p f levels → AreLevelsBeside all o p f levels
levels-beside some nodes all o p f levels e more ids beside one two are =
    subst (λ (l : List NodeId). AreLevelsBeside l o p f levels) (sym e) (record {
      beside = beside-more some nodes o p more beside;
      ids = ids;
      costs_one = cost-apart nodes f.levels.one.distances (costs_after levels.one f.levels.one).distances (moved_in levels.one) are.hops_one.moved.each one;
      costs_two = cost-apart nodes f.levels.two.distances (costs_after levels.two f.levels.two).distances (moved_in levels.two) are.hops_two.moved.each two;
      right = are;
    })

-- ---- the newest costs and hops

pub newest-level : (o : Outlook) (l : Level) (old now new : RepairedOf) (answer : Option LevelAfter) → new ≡ costs_after answer old → old ≡ now → IsLevel o l (costs_after answer now) → IsLevel o l new
newest-level o l old now new answer e g is = subst (λ (r : RepairedOf). IsLevel o l r) (sym (e ∙ ap (costs_after answer) g)) is

pub newest-costs : (nodes : List NodeId) (old now new : RepairedOf) (answer : Option LevelAfter) → new ≡ costs_after answer old → old ≡ now → CostBeside nodes now.distances (costs_after answer now).distances → CostBeside nodes now.distances new.distances
newest-costs nodes old now new answer e g is = subst (λ (r : RepairedOf). CostBeside nodes now.distances r.distances) (sym (e ∙ ap (costs_after answer) g)) is

-- the table of next hops of a level's costs
pub hops-by : (r : RepairedOf) (g : GraphOf) (root : NodeId) (pairs : List (ℕ × ℕ)) → g ≡ r.graph → root ≡ g.root → ((target hop : ℕ) → Contains pairs (target, hop) ↔ IsNextHop g.rows (node_number root) target hop) → AreHopsOf r pairs
hops-by r g root pairs e at-root are =
    record {
      each =
          subst (λ (h : GraphOf). (target hop : ℕ) → Contains pairs (target, hop) ↔ IsNextHop h.rows (node_number h.root) target hop) e
          (subst (λ (n : NodeId). (target hop : ℕ) → Contains pairs (target, hop) ↔ IsNextHop g.rows (node_number n) target hop) at-root are);
    }

-- the nodes of no numbers, and those that are there among more
pub numbers-none : (nodes : List NodeId) → HaveNumbers [] nodes
numbers-none nodes m id there = absurd (contains_none (node_number m) there)

pub numbers-more : (numbers : List ℕ) (some all : List NodeId) → AreAmong some all → HaveNumbers numbers some → HaveNumbers numbers all
numbers-more numbers some all more have m id there = more (node_number m) (have m id there)

-- costs, as they are told apart
pub costs-apart : (old new d e : List (ℕ × ℕ)) (numbers : List ℕ) → d ≡ old → e ≡ new → ((node : ℕ) → (Contains numbers node → ⊥) → cost_at d node ≡ cost_at e node) → CostsStay numbers old new
costs-apart old new d e numbers was is apart =
    record { each = λ node out. ap (λ (x : List (ℕ × ℕ)). cost_at x node) (sym was) ∙ apart node out ∙ ap (λ (x : List (ℕ × ℕ)). cost_at x node) is }
