-- The numbers of one route more, and how far they can come.
use Rattle.std.proofs.Common.{◌≡◌, ℕ, ◌+◌, ◌*◌, ◌≤◌, min, max, List, [], ◌∷◌, ◌++◌, length, arith, ap, ◌∙◌}
use Rattle.std.proofs.lemmas.List.{length-append}
use Rattle.std.proofs.lemmas.List.Sums.{sum_by_push, sum_by-cons}
use Rattle.std.specs.List.{AllByRecursion}
use Rattle.route_table.specs.declared.route.Route.{Route}
use Rattle.lab_grid.specs.declared.tally.Tally.{Tally}
use Rattle.lab_grid.specs.Tallies.{tally_of, cost_of, greatest_of, capped}

max-assoc : (a b c : ℕ) → max a (max b c) ≡ max (max a b) c
max-assoc a b c = omega arith

greatest_of-push : (before : List Route) (route : Route) → greatest_of (before ++ route ∷ []) ≡ max (greatest_of before) route.cost
greatest_of-push [] route = omega arith
greatest_of-push (first ∷ before) route =
    ap (max first.cost) (greatest_of-push before route) ∙ max-assoc first.cost (greatest_of before) route.cost

capped-more : (a b : ℕ) → capped (a + b) ≡ min (capped a + b) 18446744073709551615
capped-more a b = omega arith

-- the numbers of one route more
abbrev pub noted : Tally → ℕ → Tally
noted before cost =
    record { routes = min (before.routes + 1) 18446744073709551615; cost = min (before.cost + cost) 18446744073709551615; greatest = max before.greatest cost }

abbrev tally : ℕ → ℕ → ℕ → Tally
tally routes cost greatest = record { routes = routes; cost = cost; greatest = greatest }

pub tally-same : (a b c d e f : ℕ) → a ≡ b → c ≡ d → e ≡ f → ◌≡◌ {A = Tally} record { routes = a; cost = c; greatest = e } record { routes = b; cost = d; greatest = f }
tally-same a b c d e f p q r = ap (λ x. tally x c e) p ∙ ap (λ x. tally b x e) q ∙ ap (λ x. tally b d x) r

pub tally_of-push : (before : List Route) (route : Route) → tally_of (before ++ route ∷ []) ≡ noted (tally_of before) route.cost
unfolding tally_of
tally_of-push before route =
    tally-same _ _ _ _ _ _
    (ap capped (length-append before (route ∷ [])) ∙ capped-more (length before) 1)
    (ap capped (sum_by_push (λ (r : Route). r.cost) before route) ∙ capped-more (cost_of before) route.cost)
    (greatest_of-push before route)

cost_of-most : (routes : List Route) → AllByRecursion (λ (route : Route). route.cost ≤ 4261412864) routes → cost_of routes ≤ length routes * 4261412864
cost_of-most [] all = omega arith
cost_of-most (route ∷ routes) all =
    omega (arith, all.0, cost_of-most routes all.1, sum_by-cons (λ (r : Route). r.cost) route routes)

pub exact-routes : (routes : List Route) → length routes ≤ 4294967296 → (tally_of routes).routes ≡ length routes
unfolding tally_of
exact-routes routes few = omega (arith, few)

pub exact-cost : (routes : List Route) → length routes ≤ 4294967296 → AllByRecursion (λ (route : Route). route.cost ≤ 4261412864) routes → (tally_of routes).cost ≡ cost_of routes
unfolding tally_of
exact-cost routes few all = omega (arith, few, cost_of-most routes all)
