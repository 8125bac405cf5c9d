-- What a level 2 LSP says of prefixes is one's own, or has a route of rank One.
use Rattle.std.proofs.Common.{◌≡◌, ℕ, ◌==◌, nat_lt, Bool, true, false, List, [], ◌∷◌, map, Some, IsSome, is_some, if◌then◌else◌, refl, subst, inl, inr, arith}
use Rattle.std.proofs.lemmas.Bool.Decides.{nat_tests}
use Rattle.std.specs.List.{AllByRecursion, Contains}
use Rattle.isis_base.specs.declared.level.Level.TheVariants as level
use Rattle.isis_tlv.specs.declared.prefix.PrefixItem.{PrefixItem}
use Rattle.model_router.specs.LspPrefixes.{Reach, own_reach, with_leaks, prefixes_of}
use Rattle.model_router.specs.Maps.{find, put}
use Rattle.model_router.specs.Routers.{Router}
use Rattle.route_leaking.specs.Leaks.{up_leaks}
use Rattle.route_table.specs.declared.route.Route.{Route}
use Rattle.router_routes.specs.Leaks.{item_pair, leaked_by, pair_of}
use Rattle.router_core.specs.Givens.{given}
use Rattle.router_core.specs.LeakedUp.{HasLevelOneRoute, MayGoUp}
use Rattle.spf_tree.proofs.SearchLemmas.{contains_first, contains_rest}

-- ---- prefixes with those that are leaked

all-put : {V : Type 0} (P : ℕ → Type 0) (m : List (ℕ × V)) (n : ℕ) (v : V) → AllByRecursion (λ (p : ℕ × V). P p.0) m → P n → AllByRecursion (λ (p : ℕ × V). P p.0) (put m n v)
unfolding put
all-put P [] n v a h = (h, tt)
all-put {V} P (p ∷ m) n v a h = of (p.0 == n) (nat_lt n p.0) (all-put P m n v a.1 h)
  where
    of : (t s : Bool) → AllByRecursion (λ (p : ℕ × V). P p.0) (put m n v) → AllByRecursion (λ (p : ℕ × V). P p.0) (if t then (n, v) ∷ m else (if s then (n, v) ∷ p ∷ m else p ∷ put m n v))
    of true s b = (h, a.1)
    of false true b = (h, a)
    of false false b = (a.0, b)

all-leaks : (P : ℕ → Type 0) (down : Bool) (prefixes : List (ℕ × Reach)) (leaks : List (ℕ × ℕ)) → AllByRecursion (λ (p : ℕ × Reach). P p.0) prefixes → AllByRecursion (λ (p : ℕ × ℕ). P p.0) leaks → AllByRecursion (λ (p : ℕ × Reach). P p.0) (with_leaks down prefixes leaks)
all-leaks P down prefixes [] a b = a
all-leaks P down prefixes (p ∷ leaks) a b =
    let reach : Reach = record { metric = p.1; down = down } in
    all-leaks P down (if is_some (find prefixes p.0) then prefixes else put prefixes p.0 reach) leaks (of (is_some (find prefixes p.0)) (all-put P prefixes p.0 reach a b.0)) b.1
  where
    of : (t : Bool) → AllByRecursion (λ (p : ℕ × Reach). P p.0) (put prefixes p.0 (record { metric = p.1; down = down })) → AllByRecursion (λ (q : ℕ × Reach). P q.0) (if t then prefixes else put prefixes p.0 (record { metric = p.1; down = down }))
    of true c = a
    of false c = c

-- ---- one's own

found-behind : {V : Type 0} (p : ℕ × V) (ps : List (ℕ × V)) (n : ℕ) → IsSome (find ps n) → IsSome (find (p ∷ ps) n)
found-behind {V} p ps n h = of (p.0 == n)
  where
    of : (t : Bool) → IsSome (if t then Some p.1 else find ps n)
    of true = refl
    of false = h

found-here : {V : Type 0} (p : ℕ × V) (ps : List (ℕ × V)) → IsSome (find (p ∷ ps) p.0)
found-here p ps = let here : (p.0 == p.0) ≡ true = grind (arith, nat_tests) in rw here refl

own-found : (P : ℕ → Type 0) (own all : List (ℕ × ℕ)) → ((n : ℕ) → IsSome (find all n) → P n) → ((n : ℕ) → IsSome (find own n) → IsSome (find all n)) → AllByRecursion (λ (p : ℕ × Reach). P p.0) (own_reach own)
own-found P [] all f g = tt
own-found P (p ∷ own) all f g = (f p.0 (g p.0 (found-here p own)), own-found P own all f (λ n h. g n (found-behind p own n h)))

-- ---- what is leaked up

leaked-found : (P : ℕ → Type 0) (items all : List PrefixItem) → ((item : PrefixItem) → Contains all item → P (pair_of (item_pair item)).0) → ((item : PrefixItem) → Contains items item → Contains all item)
    → AllByRecursion (λ (p : ℕ × ℕ). P p.0) (map (λ (item : PrefixItem). pair_of (item_pair item)) items)
leaked-found P [] all f g = tt
leaked-found P (item ∷ items) all f g = (f item (g item (contains_first item items)), leaked-found P items all f (λ x h. g x (contains_rest item x items h)))

-- what is leaked up has a route of rank One
pub leaked-up : (before r : Router) (routes : List Route) → leaked_by level.Two routes ≡ given.leaks before level.Two
    → ((item : PrefixItem) → Contains (up_leaks routes) item → HasLevelOneRoute routes (pair_of (item_pair item)).0)
    → AllByRecursion (λ (p : ℕ × Reach). MayGoUp r.config routes p.0) (prefixes_of given before r level.Two)
leaked-up before r routes e f = of r.config.runs.one
  where
    may : ℕ → Type 0
    may n = MayGoUp r.config routes n

    own : AllByRecursion (λ (p : ℕ × Reach). may p.0) (own_reach r.config.prefixes)
    own = own-found may r.config.prefixes r.config.prefixes (λ n h. inl h) (λ n h. h)

    leaks : AllByRecursion (λ (p : ℕ × ℕ). may p.0) (given.leaks before level.Two)
    leaks = subst (λ (ls : List (ℕ × ℕ)). AllByRecursion (λ (p : ℕ × ℕ). may p.0) ls) e (leaked-found may (up_leaks routes) (up_leaks routes) (λ item h. inr (f item h)) (λ item h. h))

    of : (t : Bool) → AllByRecursion (λ (p : ℕ × Reach). may p.0) (if t then with_leaks false (own_reach r.config.prefixes) (given.leaks before level.Two) else own_reach r.config.prefixes)
    of true = all-leaks may false (own_reach r.config.prefixes) (given.leaks before level.Two) own leaks
    of false = own
