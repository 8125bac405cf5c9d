-- The routers of a network, each with its routes.
use Rattle.std.proofs.Common.{◌≡◌, ℕ, ◌+◌, List, [], ◌∷◌, ◌++◌, map, take, length, Option, Some, None, refl, sym, ap, ◌∙◌, subst, arith, get_or, inl, inr}
use Rattle.std.proofs.lemmas.Bool.{cases_lt}
use Rattle.std.proofs.lemmas.List.{get_or_default}
use Rattle.std.specs.List.{Contains}
use Rattle.std.specs.Option.{option_map}
use Rattle.std.proofs.lemmas.List.{length-map, map-append}
use Rattle.model_router.specs.Places.{nth}
use Rattle.model_router.specs.Routers.{Router}
use Rattle.network_lab.proofs.PlaceLemmas.{some-same, nth-map}
use Rattle.route_table.specs.declared.route.Route.{Route}
use Rattle.route_table.specs.Ranks.{prefix_number}
use Rattle.route_table.specs.Routes.{IsHopTo, AreRising}
use Rattle.route_table.proofs.OneLemmas.{one_table}
use Rattle.router_routes.specs.Outlooks.{outlook_of, graph_in}
use Rattle.router_routes.specs.Candidates.{AreRoutesOf, candidates_of}
use Rattle.forward_views.specs.Looks.{Look, outlook}
use Rattle.walk_text.specs.Tests.{AreLooks}
use Rattle.network_lab.proofs.ConfigLemmas.{take-nth}
use Rattle.walk_text.proofs.ListLemmas.{contains-here, contains-behind, of-snoc}

-- ---- a router has one list of routes

pub same-look : (a b : Look) → a.router ≡ b.router → AreRoutesOf (outlook a) a.routes → AreRoutesOf (outlook b) b.routes → a ≡ b
same-look a b e of_a of_b = made a.router b.router a.routes b.routes e
    (one_table (IsHopTo (graph_in (outlook a).told.one (outlook a).root) (graph_in (outlook a).told.two (outlook a).root)) (candidates_of (outlook a)) a.routes b.routes of_a
    (subst (λ (r : Router). AreRoutesOf (outlook_of r) b.routes) (sym e) of_b))
  where
    made : (r s : Router) (xs ys : List Route) → r ≡ s → xs ≡ ys → ◌≡◌ {A = Look} (record { router = r; routes = xs }) (record { router = s; routes = ys })
    made r s xs ys p q = λ i. record { router = p i; routes = q i }

pub one-looks : (routers : List Router) (a b : List Look) → AreLooks routers a → AreLooks routers b → a ≡ b
one-looks routers [] [] p q = refl
one-looks routers [] (y ∷ b) p q = absurd (let e = ap (λ (rs : List Router). length rs) (p.routers_are ∙ sym q.routers_are) in omega (arith, e))
one-looks routers (x ∷ a) [] p q = absurd (let e = ap (λ (rs : List Router). length rs) (p.routers_are ∙ sym q.routers_are) in omega (arith, e))
one-looks routers (x ∷ a) (y ∷ b) p q = both (same-look x y (first e) (p.routes_are x (contains-here x a)) (q.routes_are y (contains-here y b)))
    (one-looks (map (λ (look : Look). look.router) a) a b
    (record { routers_are = refl; routes_are = λ look h. p.routes_are look (contains-behind x a look h) })
    (record { routers_are = sym (rest e); routes_are = λ look h. q.routes_are look (contains-behind y b look h) }))
  where
    e : x.router ∷ map (λ (look : Look). look.router) a ≡ y.router ∷ map (λ (look : Look). look.router) b
    e = p.routers_are ∙ sym q.routers_are

    first : {r s : Router} {rs ss : List Router} → r ∷ rs ≡ s ∷ ss → r ≡ s
    first k = cc

    rest : {r s : Router} {rs ss : List Router} → r ∷ rs ≡ s ∷ ss → rs ≡ ss
    rest k = cc

    both : {u v : Look} {us vs : List Look} → u ≡ v → us ≡ vs → u ∷ us ≡ v ∷ vs
    both k l = cc

-- ---- places

pub looks-long : (routers : List Router) (looks : List Look) → AreLooks routers looks → length looks ≡ length routers
looks-long routers looks are = sym (length-map looks (λ (look : Look). look.router)) ∙ ap length are.routers_are

pub router-at : (routers : List Router) (looks : List Look) → AreLooks routers looks → (i : ℕ) (look : Look) → nth looks i ≡ Some look → nth routers i ≡ Some look.router
router-at routers looks are i look e =
    ap (λ (rs : List Router). nth rs i) (sym are.routers_are) ∙ (nth-map (λ (l : Look). l.router) looks i ∙ ap (option_map (λ (l : Look). l.router)) e)

pub look-at : (routers : List Router) (looks : List Look) → AreLooks routers looks → (i : ℕ) (r : Router) → nth routers i ≡ Some r → (look : Look) × (nth looks i ≡ Some look) × (look.router ≡ r)
look-at routers looks are i r e = of (nth looks i) refl
  where
    mapped : option_map (λ (l : Look). l.router) (nth looks i) ≡ Some r
    mapped = sym (nth-map (λ (l : Look). l.router) looks i) ∙ (ap (λ (rs : List Router). nth rs i) are.routers_are ∙ e)

    of : (o : Option Look) → nth looks i ≡ o → (look : Look) × (nth looks i ≡ Some look) × (look.router ≡ r)
    of None q = absurd (let x : None ≡ Some r = ap (option_map (λ (l : Look). l.router)) (sym q) ∙ mapped in cc)
    of (Some look) q = (look, q, some-same look.router r (ap (option_map (λ (l : Look). l.router)) (sym q) ∙ mapped))

-- a router more, with its routes
pub looks-more : (routers : List Router) (n : ℕ) (r : Router) (routes : List Route) → nth routers n ≡ Some r → AreRoutesOf (outlook_of r) routes → (looks : List Look) → AreLooks (take n routers) looks
    → (more : List Look) × AreLooks (take (n + 1) routers) more
looks-more routers n r routes at of looks are = (
  looks ++ (new ∷ []),
  record {
    routers_are = map-append (λ (look : Look). look.router) looks (new ∷ []) ∙ (ap (λ (rs : List Router). rs ++ (r ∷ [])) are.routers_are ∙ sym (take-nth routers n r at));
    routes_are = λ look h. of-snoc looks new look h (AreRoutesOf (outlook look) look.routes) (are.routes_are look) (λ e. subst (λ (l : Look). AreRoutesOf (outlook l) l.routes) e of);
  },
)
  where
    new : Look
    new = record { router = r; routes = routes }

-- the same of a list of looks
pub take-looks : (looks : List Look) (n : ℕ) (look : Look) → nth looks n ≡ Some look → take (n + 1) looks ≡ take n looks ++ (look ∷ [])
take-looks looks n look e = take-nth looks n look e

-- ---- a route of a prefix is one

pub one-list : (r : Router) (look : Look) (routes list : List Route) (route : Route) → look.router ≡ r → AreRoutesOf (outlook look) look.routes → AreRoutesOf (outlook_of r) routes → list ≡ routes → Contains look.routes route → Contains list route
one-list r look routes list route e of_look of same h =
    let one : look ≡ record { router = r; routes = routes } = same-look look (record { router = r; routes = routes }) e of_look of in
    subst (λ (rs : List Route). Contains rs route) (ap (λ (l : Look). l.routes) one ∙ sym same) h

at-one : (routes : List Route) (a b : Route) → AreRising routes → Contains routes a → Contains routes b → prefix_number a.prefix ≡ prefix_number b.prefix → a ≡ b
at-one routes a b rising h k e = elim (cases_lt h.0 k.0) [
  | inl less ↦ (let up = rising.below h.0 k.0 a less k.1 in
      let x = ap (λ (r : Route). prefix_number r.prefix) h.2 in
      let y = ap (λ (r : Route). prefix_number r.prefix) (get_or_default routes k.0 a b k.1 ∙ k.2) in absurd (omega (arith, up, x, y, e)))
  | inr more ↦ elim (cases_lt k.0 h.0) [
    | inl less ↦ (let up = rising.below k.0 h.0 b less h.1 in
        let x = ap (λ (r : Route). prefix_number r.prefix) k.2 in
        let y = ap (λ (r : Route). prefix_number r.prefix) (get_or_default routes h.0 b a h.1 ∙ h.2) in absurd (omega (arith, up, x, y, e)))
    | inr other ↦ (let same : h.0 ≡ k.0 = omega (arith, more, other) in
        sym h.2 ∙ (ap (λ (n : ℕ). get_or routes n a) same ∙ (get_or_default routes k.0 a b k.1 ∙ k.2)))
  ]
]

pub one-route : (r : Router) (look : Look) (routes list : List Route) (found route : Route) {prefix : ℕ} → look.router ≡ r → AreRoutesOf (outlook look) look.routes → AreRoutesOf (outlook_of r) routes → list ≡ routes
    → Contains list found → prefix_number found.prefix ≡ prefix → Contains look.routes route × (prefix_number route.prefix ≡ prefix) → found ≡ route
one-route r look routes list found route e of_look of same there p is =
    let mine : Contains routes route = subst (λ (rs : List Route). Contains rs route) same (one-list r look routes list route e of_look of same is.0) in
    let other : Contains routes found = subst (λ (rs : List Route). Contains rs found) same there in
    at-one routes found route of.rising other mine (p ∙ sym is.1)

pub other-list : (r : Router) (look : Look) (routes list : List Route) (route : Route) → look.router ≡ r → AreRoutesOf (outlook look) look.routes → AreRoutesOf (outlook_of r) routes → list ≡ routes → Contains list route → Contains look.routes route
other-list r look routes list route e of_look of same h =
    let one : look ≡ record { router = r; routes = routes } = same-look look (record { router = r; routes = routes }) e of_look of in
    subst (λ (rs : List Route). Contains rs route) (same ∙ sym (ap (λ (l : Look). l.routes) one)) h

-- the router of a look at a place
pub router-is : (routers : List Router) (looks : List Look) → AreLooks routers looks → (i : ℕ) (look : Look) (r : Router) → nth looks i ≡ Some look → nth routers i ≡ Some r → look.router ≡ r
router-is routers looks are i look r e f = some-same look.router r (sym (router-at routers looks are i look e) ∙ f)
