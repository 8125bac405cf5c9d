-- The one router whose own a prefix is.
use Rattle.std.proofs.Common.{◌≡◌, ℕ, ◌+◌, ◌==◌, ◌&&◌, Bool, true, false, List, take, if◌then◌else◌, Some, refl, sym, ap, ◌∙◌, arith}
use Rattle.std.specs.List.{list_any, count_by}
use Rattle.std.proofs.lemmas.List.Sums.{sum_by_push}
use Rattle.model_router.specs.Places.{nth}
use Rattle.model_router.specs.Routers.{Router}
use Rattle.router_routes.specs.Outlooks.{outlook_of}
use Rattle.router_routes.specs.Candidates.{AreRoutesOf}
use Rattle.std.proofs.lemmas.Bool.Decides.{nat_tests}
use Rattle.route_table.specs.declared.route.Route.{Route}
use Rattle.route_table.specs.Ranks.{prefix_number}
use Rattle.forward_views.specs.Looks.{Look, is_own, HasOwn, IsOwner}
use Rattle.walk_text.specs.Tests.{AreLooks, owns, owner_count}
use Rattle.walk_text.proofs.ListLemmas.{contains-nth, any-contains, contains-any, one-passes}
use Rattle.walk_text.proofs.LookLemmas.{same-look, look-at, take-looks}

pub and-first : (a b : Bool) → (a && b) ≡ true → a ≡ true
and-first true b e = refl
and-first false b e = absurd (cc)

pub and-last : (a b : Bool) → (a && b) ≡ true → b ≡ true
and-last true b e = e
and-last false b e = absurd (cc)

pub owns-has : (prefix : ℕ) (look : Look) → owns prefix look ≡ true → HasOwn look prefix
owns-has prefix look e =
    let h = any-contains (λ (route : Route). prefix_number route.prefix == prefix && is_own route) look.routes e in
    let p = and-first (prefix_number h.0.prefix == prefix) (is_own h.0) h.2 in
    let q = and-last (prefix_number h.0.prefix == prefix) (is_own h.0) h.2 in
    (h.0, h.1, grind (arith, nat_tests, p), grind (arith, nat_tests, q))

pub has-owns : (prefix : ℕ) (look : Look) → HasOwn look prefix → owns prefix look ≡ true
has-owns prefix look h =
    contains-any (λ (route : Route). prefix_number route.prefix == prefix && is_own route) look.routes h.0 h.1
    (let p : (prefix_number h.0.prefix == prefix) ≡ true = (let e = h.2 in grind (arith, nat_tests, e)) in
    let q : is_own h.0 ≡ true = (let e = h.3 in grind (arith, nat_tests, e)) in rw (p, q) refl)

pub the-owner : (looks : List Look) (prefix : ℕ) → owner_count prefix looks ≡ 1 → (owner : Look) × IsOwner looks prefix owner
the-owner looks prefix e =
    let h = one-passes (owns prefix) looks e in
    (h.0, record { there = h.1; own = owns-has prefix h.0 h.2; only = λ look there own. h.3 look there (has-owns prefix look own) })

-- ---- how many of the first routers own it

pub count-next : (routers : List Router) (looks : List Look) → AreLooks routers looks → (n prefix count : ℕ) (r : Router) (routes list : List Route) (has : Bool) → nth routers n ≡ Some r → AreRoutesOf (outlook_of r) routes → list ≡ routes
    → has ≡ list_any (λ (route : Route). prefix_number route.prefix == prefix && is_own route) list → count ≡ count_by (owns prefix) (take n looks)
    → count + (if has then 1 else 0) ≡ count_by (owns prefix) (take (n + 1) looks)
count-next routers looks are n prefix count r routes list has at of same has_is count_is =
    let l = look-at routers looks are n r at in
    let one : l.0 ≡ record { router = r; routes = routes } = same-look l.0 (record { router = r; routes = routes }) l.2 (are.routes_are l.0 (contains-nth looks n l.0 l.1)) of in
    let own : has ≡ owns prefix l.0 = has_is ∙ ap (λ (rs : List Route). list_any (λ (route : Route). prefix_number route.prefix == prefix && is_own route) rs) (same ∙ sym (ap (λ (x : Look). x.routes) one)) in
    ap (λ (m : ℕ). m + (if has then 1 else 0)) count_is ∙ (ap (λ (b : Bool). count_by (owns prefix) (take n looks) + (if b then 1 else 0)) own
    ∙ (sym (sum_by_push (λ (x : Look). if owns prefix x then 1 else 0) (take n looks) l.0) ∙ ap (count_by (owns prefix)) (sym (take-looks looks n l.0 l.1))))
