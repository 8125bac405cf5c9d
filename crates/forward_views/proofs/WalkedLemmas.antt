-- Why walks along routes end.
use Rattle.std.proofs.Common.{◌≡◌, ◌≢◌, ◌∙◌, ℕ, ◌+◌, ◌≤◌, ◌<◌, true, false, List, [], ◌∷◌, length, map, get_or, refl, sym, ap, subst, arith, inl, inr, Bool, Option, Some, None, is_some, if◌then◌else◌}
use Rattle.std.specs.Prelude.{nat_eq}
use Rattle.std.specs.List.{Contains, IsDistinct, AllByRecursion}
use Rattle.std.specs.Set.{is_member}
use Rattle.std.proofs.lemmas.Bool.{cases_eq, cases_lt, or_cases, ne_eqb, false≢true}
use Rattle.std.proofs.lemmas.Cmp.{nat_eq_equiv}
use Rattle.std.proofs.lemmas.List.{get_or-map, get_or_default, length-map}
use Rattle.std.proofs.lemmas.List.Folds.{list_any_at}
use Rattle.std.proofs.lemmas.Map.Keys.{IsDistinct-cons}
use Rattle.std.proofs.lemmas.Map.Made.{length-le_from_is_member}
use Rattle.isis_base.specs.declared.identifiers.NodeId.{NodeId}
use Rattle.spf_tree.specs.declared.row.Row.{Row}
use Rattle.spf_tree.specs.Nodes.{node_number, is_system}
use Rattle.spf_tree.specs.Walks.{end, IsWalk}
use Rattle.spf_tree.specs.NextHops.{IsLeastWalk, first_system, IsNextHop}
use Rattle.route_table.specs.declared.rank.Rank.{Rank}
use Rattle.route_table.specs.declared.rank.Rank.TheVariants.{Own, One, Two, OneDown, Default}
use Rattle.route_table.specs.declared.route.Route.{Route}
use Rattle.spf_tree.specs.Graphs.{GraphOf}
use Rattle.route_table.specs.Ranks.{rank_number, prefix_number}
use Rattle.route_table.specs.Routes.{IsHopBy, IsNoWorse, AreRising}
use Rattle.forward_views.specs.Moves.{IsMoveCost}
use Rattle.forward_views.proofs.MoveLemmas.{costs_some, usable_there}
use Rattle.forward_views.specs.Walked.{RouterOf, root_of, Agree, IsRouteOf, IsMove, AreMoves, costs_of}
use Rattle.forward_views.proofs.RouteLemmas.{routes_fall, no_rank}

-- a router has one route of a prefix
route_at : (routes : List Route) (prefix i : ℕ) (a d : Route) → i < length routes → get_or routes i a ≡ a → prefix_number a.prefix ≡ prefix → prefix_number (get_or routes i d).prefix ≡ prefix
route_at routes prefix i a d low is same = ap (λ (r : Route). prefix_number r.prefix) (get_or_default routes i d a low ∙ is) ∙ same

pub route_one : (routes : List Route) (prefix : ℕ) (a b : Route) → AreRising routes → Contains routes a → Contains routes b → prefix_number a.prefix ≡ prefix → prefix_number b.prefix ≡ prefix → a ≡ b
route_one routes prefix a b rising in_a in_b is_a is_b =
    let ea = route_at routes prefix in_a.0 a a in_a.1 in_a.2 is_a in
    let eb = route_at routes prefix in_b.0 b a in_b.1 in_b.2 is_b in
    elim (cases_eq in_a.0 in_b.0) [
      | inl same ↦ sym in_a.2 ∙ ap (λ (k : ℕ). get_or routes k a) same ∙ get_or_default routes in_b.0 a b in_b.1 ∙ in_b.2
      | inr other ↦
          elim (cases_lt in_a.0 in_b.0) [
            | inl less ↦ let up = rising.below in_a.0 in_b.0 a less in_b.1 in absurd (omega arith)
            | inr more ↦ let up = rising.below in_b.0 in_a.0 a (omega arith) in_a.1 in absurd (omega arith)
          ]
    ]

-- one's own prefix has no next hop
own_hop : (one two : GraphOf) (rank : Rank) (origin hop : ℕ) → rank_number rank ≡ 0 → IsHopBy one two rank origin hop → ⊥
own_hop one two Own origin hop is there = there
own_hop one two One origin hop is there = absurd (omega arith)
own_hop one two Two origin hop is there = absurd (omega arith)
own_hop one two OneDown origin hop is there = absurd (omega arith)
own_hop one two Default origin hop is there = absurd (omega arith)

move_one : (rows : List Row) (from to a b : ℕ) → IsMoveCost rows from to a → IsMoveCost rows from to b → a ≡ b
move_one rows from to a b of_a of_b =
    let x = of_a.none_less of_b.walk.0 of_b.walk.1 of_b.walk.2 in
    let y = of_b.none_less of_a.walk.0 of_a.walk.1 of_a.walk.2 in
    let ex = of_b.walk.3 in
    let ey = of_a.walk.3 in
    omega arith

abbrev pub roots_of : List (RouterOf × ℕ) → List ℕ
roots_of [] = []
roots_of (move ∷ moves) = root_of move.0 ∷ roots_of moves

length-roots : (moves : List (RouterOf × ℕ)) → length (roots_of moves) ≡ length moves
length-roots [] = refl
length-roots (move ∷ moves) = let e = length-roots moves in omega arith

module _ (rows : List Row) (overloaded : List NodeId) (prefix owner metric : ℕ) (routers : List RouterOf) (agree : Agree rows overloaded prefix owner metric routers) where
  same_route : (r : RouterOf) (a b : Route) → Contains routers r → IsRouteOf r prefix a → IsRouteOf r prefix b → a ≡ b
  same_route r a b there of_a of_b = route_one r.routes prefix a b (agree.routes_are r there).rising of_a.0 of_b.0 of_a.1 of_b.1

  stays : (r : RouterOf) (route : Route) (hop : ℕ) → Contains routers r → IsRouteOf r prefix route → Contains route.hops hop → root_of r ≡ owner → ⊥
  stays r route hop there of_route leads home =
      let own = (agree.at r there).own home in
      let is = (agree.routes_are r there).each route of_route.0 in
      let c = own.into in
      let best = subst (λ (k : ℕ). IsNoWorse (rank_number route.rank) route.cost k c.0.cost) c.2.1 (is.best c.0 c.1 (c.2.0 ∙ sym of_route.1)) in
      let zero = no_rank (rank_number route.rank) route.cost c.0.cost best in
      let h = (is.hops hop).0 leads in
      own_hop r.one r.two h.0.rank (node_number h.0.origin) hop (h.2.1 ∙ zero) h.3

  pub one_move : (from to : RouterOf) (route : Route) (move : ℕ) → Contains routers from → IsRouteOf from prefix route → IsMove routers prefix from to move → (next : Route) × IsRouteOf to prefix next × (route.cost ≡ move + next.cost) × (1 ≤ move)
  one_move from to route move there of_route m =
      let same = same_route from m.route route there m.is of_route in
      let other : root_of from ≢ owner = λ home. stays from m.route (root_of to) there m.is m.leads home in
      let is = (agree.routes_are from there).each m.route m.is.0 in
      let f = routes_fall rows overloaded prefix owner metric from.one from.two to.one to.two from.candidates to.candidates m.route to.routes (agree.rows_are from there) (agree.rows_are to m.there) (agree.at from there) (agree.at to m.there) other is m.is.1 (agree.routes_are to m.there) m.leads in
      let cost = move_one from.one.rows (root_of from) (root_of to) move f.move m.moved f.moved in
      let route_cost = ap (λ (r : Route). r.cost) same in
      let sum = f.sum in
      let some = costs_some from.one.rows (root_of from) (root_of to) move (λ e. f.other (sym e))
      (λ row in' starts. agree.none_zero from row there (usable_there rows overloaded (root_of from) row (subst (λ (rs : List Row). Contains rs row) (agree.rows_are from there) in')) starts) m.moved in
      (f.next, (f.there, f.same), omega arith, some)

  pub walk : (from to : RouterOf) (route : Route) (moves : List (RouterOf × ℕ)) → Contains routers from → IsRouteOf from prefix route → AreMoves routers prefix from moves to → (last : Route) × IsRouteOf to prefix last × (route.cost ≡ costs_of moves + last.cost)
  walk from to route [] there of_route is = (route, subst (λ (r : RouterOf). IsRouteOf r prefix route) (sym is) of_route, omega arith)
  walk from to route (move ∷ moves) there of_route is =
      let m = one_move from move.0 route move.1 there of_route is.0 in
      let w = walk move.0 to m.0 moves is.0.there m.1 is.1 in
      let a = m.2 in
      let b = w.2 in
      (w.0, w.1, omega arith)

  apart_here : (first : RouterOf) (dear : Route) (from : RouterOf) (route : Route) → Contains routers first → IsRouteOf first prefix dear → Contains routers from → IsRouteOf from prefix route → route.cost < dear.cost → nat_eq (root_of first) (root_of from) ≡ false
  apart_here first dear from route in_first of_first in_from of_from less =
      ne_eqb (root_of first) (root_of from) (λ e.
      let r = agree.one_each first from in_first in_from e in
      let same = same_route from dear route in_from (subst (λ (x : RouterOf). IsRouteOf x prefix dear) r of_first) of_from in
      let cost = ap (λ (x : Route). x.cost) same in
      omega arith)

  apart : (first : RouterOf) (dear : Route) (from to : RouterOf) (route : Route) (moves : List (RouterOf × ℕ)) → Contains routers first → IsRouteOf first prefix dear → Contains routers from → IsRouteOf from prefix route → route.cost < dear.cost → AreMoves routers prefix from moves to
      → AllByRecursion (λ y. nat_eq (root_of first) y ≡ false) (root_of from ∷ roots_of moves)
  apart first dear from to route [] in_first of_first in_from of_from less is = (apart_here first dear from route in_first of_first in_from of_from less, tt)
  apart first dear from to route (move ∷ moves) in_first of_first in_from of_from less is =
      let m = one_move from move.0 route move.1 in_from of_from is.0 in
      let sum = m.2 in
      (apart_here first dear from route in_first of_first in_from of_from less, apart first dear move.0 to m.0 moves in_first of_first is.0.there m.1 (omega arith) is.1)

  distinct : (from to : RouterOf) (route : Route) (moves : List (RouterOf × ℕ)) → Contains routers from → IsRouteOf from prefix route → AreMoves routers prefix from moves to → IsDistinct nat_eq (root_of from ∷ roots_of moves)
  unfolding IsDistinct
  distinct from to route [] there of_route is = IsDistinct-cons nat_eq (root_of from) [] tt tt
  distinct from to route (move ∷ moves) there of_route is =
      let m = one_move from move.0 route move.1 there of_route is.0 in
      let sum = m.2 in
      let some = m.3 in
      IsDistinct-cons nat_eq (root_of from) (root_of move.0 ∷ roots_of moves) (apart from route move.0 to m.0 moves there of_route is.0.there m.1 (omega arith) is.1) (distinct move.0 to m.0 moves is.0.there m.1 is.1)

  member : (r : RouterOf) (q : ℕ) → Contains routers r → nat_eq q (root_of r) ≡ true → is_member nat_eq (map root_of routers) q ≡ true
  member r q h e =
      let n : h.0 < length (map root_of routers) = simp length-map h.1 in
      let is : get_or (map root_of routers) h.0 0 ≡ root_of r = get_or-map root_of routers h.0 r 0 h.1 ∙ ap root_of h.2 in
      list_any_at (nat_eq q) (map root_of routers) h.0 0 n (rw is e)

  members : (from to : RouterOf) (moves : List (RouterOf × ℕ)) → Contains routers from → AreMoves routers prefix from moves to → (q : ℕ) → is_member nat_eq (root_of from ∷ roots_of moves) q ≡ true → is_member nat_eq (map root_of routers) q ≡ true
  members from to [] there is q found =
      elim (or_cases (nat_eq q (root_of from)) false found) [ inl here ↦ member from q there here | inr later ↦ cc ]
  members from to (move ∷ moves) there is q found =
      elim (or_cases (nat_eq q (root_of from)) (is_member nat_eq (root_of move.0 ∷ roots_of moves) q) found) [
        | inl here ↦ member from q there here
        | inr later ↦ members move.0 to moves is.0.there is.1 q later
      ]

  pub few : (from to : RouterOf) (route : Route) (moves : List (RouterOf × ℕ)) → Contains routers from → IsRouteOf from prefix route → AreMoves routers prefix from moves to → length moves < length routers
  few from to route moves there of_route is =
      let le = length-le_from_is_member nat_eq_equiv (root_of from ∷ roots_of moves) (map root_of routers) (distinct from to route moves there of_route is) (members from to moves there is) in
      let roots = length-roots moves in
      omega (arith, length-map routers root_of)

pub walks : (rows : List Row) (overloaded : List NodeId) (prefix owner metric : ℕ) (routers : List RouterOf) (from to : RouterOf) (route : Route) (moves : List (RouterOf × ℕ)) → Agree rows overloaded prefix owner metric routers → Contains routers from → IsRouteOf from prefix route → AreMoves routers prefix from moves to
    → (last : Route) × IsRouteOf to prefix last × (route.cost ≡ costs_of moves + last.cost) × (length moves < length routers)
walks rows overloaded prefix owner metric routers from to route moves agree there of_route is =
    let w = walk rows overloaded prefix owner metric routers agree from to route moves there of_route is in
    (w.0, w.1, w.2, few rows overloaded prefix owner metric routers agree from to route moves there of_route is)

-- ---- elsewhere than at the owner a walk can go on

some_first : (o : Option ℕ) (n : ℕ) → (hop : ℕ) × ((if is_some o then o else (if true then Some n else None)) ≡ Some hop)
some_first None n = (n, refl)
some_first (Some k) n = (k, refl)

first_there : (rows : List Row) (root : ℕ) (walk : List Row) (node : ℕ) → IsWalk rows root walk node → node ≢ root → is_system node ≡ true → (hop : ℕ) × (first_system walk ≡ Some hop)
first_there rows root [] node is other system = absurd (other is)
first_there rows root (row ∷ walk) node is other system =
    let ends : is_system (end row) ≡ true = subst (λ (n : ℕ). is_system n ≡ true) (sym is.1) system in
    let f = some_first (first_system walk) (end row) in
    (f.0, by_end (first_system walk) (is_system (end row)) (end row) f.0 ends f.1)
  where
    by_end : (o : Option ℕ) (b : Bool) (n hop : ℕ) → b ≡ true → (if is_some o then o else (if true then Some n else None)) ≡ Some hop → (if is_some o then o else (if b then Some n else None)) ≡ Some hop
    by_end o true n hop e h = h
    by_end o false n hop e h = absurd (false≢true e)

hop_by : (one two : GraphOf) (rank : Rank) (origin hop : ℕ) → rank_number rank ≡ 1 → IsNextHop one.rows (node_number one.root) origin hop → IsHopBy one two rank origin hop
hop_by one two Own origin hop is there = absurd (omega arith)
hop_by one two One origin hop is there = there
hop_by one two Two origin hop is there = absurd (omega arith)
hop_by one two OneDown origin hop is there = absurd (omega arith)
hop_by one two Default origin hop is there = absurd (omega arith)

pub goes_on : (rows : List Row) (overloaded : List NodeId) (prefix owner metric : ℕ) (routers : List RouterOf) (from : RouterOf) (route : Route) → Agree rows overloaded prefix owner metric routers → Contains routers from → IsRouteOf from prefix route → root_of from ≢ owner → is_system owner ≡ true → (hop : ℕ) × Contains route.hops hop
goes_on rows overloaded prefix owner metric routers from route agree there of_route other system =
    let is = (agree.routes_are from there).each route of_route.0 in
    let c = is.some in
    let t = ((agree.at from there).told other).from c.0 c.1 (c.2.0 ∙ of_route.1) in
    let w = t.1.walk in
    let cost_is = w.2 in
    let least : IsLeastWalk from.one.rows (root_of from) w.0 owner = record { is = w.1; least = λ more leads. let le = t.1.none_less more leads in omega arith } in
    let f = first_there from.one.rows (root_of from) w.0 owner w.1 (λ e. other (sym e)) system in
    let next : IsNextHop from.one.rows (root_of from) owner f.0 = (w.0, least, f.1) in
    let by = hop_by from.one from.two c.0.rank (node_number c.0.origin) f.0 t.2.1 (subst (λ (n : ℕ). IsNextHop from.one.rows (root_of from) n f.0) (sym t.3) next) in
    (f.0, (is.hops f.0).1 (c.0, c.1, c.2, by))
