-- Why routes fall along a move.
use Rattle.std.proofs.Common.{◌≡◌, ◌≢◌, ◌∙◌, ℕ, ◌+◌, ◌≤◌, List, [], refl, sym, subst, arith, inl, inr}
use Rattle.std.specs.List.{Contains}
use Rattle.std.proofs.lemmas.Bool.{cases_eq}
use Rattle.isis_base.specs.declared.identifiers.NodeId.{NodeId}
use Rattle.spf_tree.specs.declared.row.Row.{Row}
use Rattle.spf_tree.specs.Graphs.{GraphOf}
use Rattle.spf_tree.specs.Nodes.{node_number}
use Rattle.spf_tree.specs.NextHops.{IsNextHop}
use Rattle.route_table.specs.declared.rank.Rank.{Rank}
use Rattle.route_table.specs.declared.rank.Rank.TheVariants.{Own, One, Two, OneDown, Default}
use Rattle.route_table.specs.declared.candidate.Candidate.{Candidate}
use Rattle.route_table.specs.declared.route.Route.{Route}
use Rattle.route_table.specs.Ranks.{rank_number, prefix_number}
use Rattle.route_table.specs.Routes.{IsHopBy, IsHopTo, IsNoWorse, IsRoute, AreRoutes}
use Rattle.forward_views.specs.Moves.{usable_from, IsMoveCost, IsLeastCost}
use Rattle.forward_views.proofs.MoveLemmas.{falls}
use Rattle.forward_views.specs.Owned.{IsTold, IsOwn, IsAt, FallsTo}

least_one : (rows : List Row) (root node a b : ℕ) → IsLeastCost rows root node a → IsLeastCost rows root node b → a ≡ b
least_one rows root node a b of_a of_b =
    let x = of_a.none_less of_b.walk.0 of_b.walk.1 in
    let y = of_b.none_less of_a.walk.0 of_a.walk.1 in
    let ex = of_b.walk.2 in
    let ey = of_a.walk.2 in
    omega arith

least_home : (rows : List Row) (root a : ℕ) → IsLeastCost rows root root a → a ≡ 0
least_home rows root a is = let x = is.none_less [] refl in omega arith

-- of the rank of level 1 the next hops are those of the first graph
first_hop : (one two : GraphOf) (rank : Rank) (origin hop : ℕ) → rank_number rank ≡ 1 → IsHopBy one two rank origin hop → IsNextHop one.rows (node_number one.root) origin hop
first_hop one two Own origin hop is there = absurd (omega arith)
first_hop one two One origin hop is there = there
first_hop one two Two origin hop is there = absurd (omega arith)
first_hop one two OneDown origin hop is there = absurd (omega arith)
first_hop one two Default origin hop is there = absurd (omega arith)

pub no_worse : (a b c d : ℕ) → IsNoWorse a b c d → a ≡ c → b ≤ d
no_worse a b c d (inl less) same = absurd (omega arith)
no_worse a b c d (inr equal) same = equal.1

pub no_rank : (a b d : ℕ) → IsNoWorse a b 0 d → a ≡ 0
no_rank a b d (inl less) = absurd (omega arith)
no_rank a b d (inr equal) = equal.0

-- the owner's route costs the metric
own_cost : (one two : GraphOf) (candidates : List Candidate) (prefix metric : ℕ) (routes : List Route) → IsOwn candidates prefix metric → AreRoutes (IsHopTo one two) candidates routes
    → (next : Route) × Contains routes next × (prefix_number next.prefix ≡ prefix) × (next.cost ≡ metric)
own_cost one two candidates prefix metric routes own are =
    let c = own.into in
    let r = are.all c.0 c.1 in
    let is = are.each r.0 r.1 in
    let same : prefix_number r.0.prefix ≡ prefix = r.2 ∙ c.2.0 in
    let best = subst (λ (k : ℕ). IsNoWorse (rank_number r.0.rank) r.0.cost k c.0.cost) c.2.1 (is.best c.0 c.1 (sym r.2)) in
    let zero = no_rank (rank_number r.0.rank) r.0.cost c.0.cost best in
    let le = no_worse (rank_number r.0.rank) r.0.cost 0 c.0.cost best zero in
    let cost = c.2.2 in
    let ge = own.from is.some.0 is.some.1 (is.some.2.0 ∙ same) (is.some.2.1 ∙ zero) in
    let like = is.some.2.2 in
    (r.0, r.1, same, omega arith)

-- another router's route costs the metric more than the way to the owner
told_cost : (one two : GraphOf) (candidates : List Candidate) (prefix owner rest metric : ℕ) (routes : List Route) → IsTold one candidates prefix owner metric → AreRoutes (IsHopTo one two) candidates routes → IsLeastCost one.rows (node_number one.root) owner rest
    → (next : Route) × Contains routes next × (prefix_number next.prefix ≡ prefix) × (next.cost ≡ rest + metric)
told_cost one two candidates prefix owner rest metric routes told are cheapest =
    let c = told.into rest cheapest in
    let r = are.all c.0 c.1 in
    let is = are.each r.0 r.1 in
    let same : prefix_number r.0.prefix ≡ prefix = r.2 ∙ c.2.0 in
    let t = told.from is.some.0 is.some.1 (is.some.2.0 ∙ same) in
    let d = least_one one.rows (node_number one.root) owner t.0 rest t.1 cheapest in
    let like = is.some.2.2 in
    let some_cost = t.2.2 in
    (r.0, r.1, same, omega arith)

pub routes_fall : (rows : List Row) (overloaded : List NodeId) (prefix owner metric : ℕ) (one two next_one next_two : GraphOf) (candidates next_candidates : List Candidate) (route : Route) (next_routes : List Route)
    → one.rows ≡ usable_from rows overloaded (node_number one.root)
    → next_one.rows ≡ usable_from rows overloaded (node_number next_one.root)
    → IsAt one candidates prefix owner metric
    → IsAt next_one next_candidates prefix owner metric
    → node_number one.root ≢ owner
    → IsRoute (IsHopTo one two) candidates route → prefix_number route.prefix ≡ prefix
    → AreRoutes (IsHopTo next_one next_two) next_candidates next_routes
    → Contains route.hops (node_number next_one.root)
    → FallsTo one (node_number next_one.root) route prefix next_routes
routes_fall rows overloaded prefix owner metric one two next_one next_two candidates next_candidates route next_routes is_one is_next here there other is same are leads =
    let from = node_number one.root in
    let hop = node_number next_one.root in
    let told = here.told other in
    let h = (is.hops hop).0 leads in
    let t = told.from h.0 h.1 (h.2.0 ∙ same) in
    let first = first_hop one two h.0.rank (node_number h.0.origin) hop t.2.1 h.3 in
    let next : IsNextHop (usable_from rows overloaded from) from owner hop = subst (λ (rs : List Row). IsNextHop rs from owner hop) is_one (subst (λ (n : ℕ). IsNextHop one.rows from n hop) t.3 first) in
    let f = falls rows overloaded from hop owner other next in
    let all : IsLeastCost one.rows from owner (f.move + f.rest) = subst (λ (rs : List Row). IsLeastCost rs from owner (f.move + f.rest)) (sym is_one) f.all in
    let rest : IsLeastCost next_one.rows hop owner f.rest = subst (λ (rs : List Row). IsLeastCost rs hop owner f.rest) (sym is_next) f.there in
    let moved : IsMoveCost one.rows from hop f.move = subst (λ (rs : List Row). IsMoveCost rs from hop f.move) (sym is_one) f.moved in
    let d = least_one one.rows from owner t.0 (f.move + f.rest) t.1 all in
    let cost = t.2.2 in
    let like = h.2.2 in
    elim (cases_eq hop owner) [
      | inl home ↦
          let n = own_cost next_one next_two next_candidates prefix metric next_routes (there.own home) are in
          let none = least_home next_one.rows hop f.rest (subst (λ (o : ℕ). IsLeastCost next_one.rows hop o f.rest) (sym home) rest) in
          let n_cost = n.3 in
          record { move = f.move; next = n.0; other = f.other; moved = moved; there = n.1; same = n.2; sum = omega arith }
      | inr on ↦
          let n = told_cost next_one next_two next_candidates prefix owner f.rest metric next_routes (there.told on) are rest in
          let n_cost = n.3 in
          record { move = f.move; next = n.0; other = f.other; moved = moved; there = n.1; same = n.2; sum = omega arith }
    ]
