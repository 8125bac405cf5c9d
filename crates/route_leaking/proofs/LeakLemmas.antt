-- What is leaked comes of a route of its rank.
use Rattle.std.proofs.Common.{◌≡◌, List, [], ◌∷◌, Bool, true, false, cond, eqb, map, filter, refl, sym, subst, inl, inr, ◌⊎◌}
use Rattle.std.specs.List.{Contains}
use Rattle.isis_tlv.specs.declared.prefix.PrefixItem.{PrefixItem}
use Rattle.route_table.specs.declared.rank.Rank.{Rank}
use Rattle.route_table.specs.declared.rank.Rank.TheVariants.{Own, One, Two, OneDown, Default}
use Rattle.route_table.specs.declared.route.Route.{Route}
use Rattle.route_table.specs.Ranks.{rank_number}
use Rattle.spf_tree.proofs.SearchLemmas.{contains_first, contains_rest, contains_cases, contains_none}
use Rattle.route_leaking.specs.Leaks.{leaked, has_rank, leaks}

-- a route of the list that is of the rank, of which the item says the prefix
abbrev pub IsOf : Rank → Bool → List Route → PrefixItem → Type 0
IsOf rank down routes item =
    (route : Route) × Contains routes route × (has_rank rank route ≡ true) × (item ≡ leaked down route)

IsOf-rest : (rank : Rank) (down : Bool) (r : Route) (routes : List Route) (item : PrefixItem) → IsOf rank down routes item → IsOf rank down (r ∷ routes) item
IsOf-rest rank down r routes item is = (is.0, contains_rest r is.0 routes is.1, is.2, is.3)

first-or-rest : (rank : Rank) (down : Bool) (r : Route) (routes : List Route) (item : PrefixItem) → has_rank rank r ≡ true → (Contains (leaks rank down routes) item → IsOf rank down routes item) → (leaked down r ≡ item) ⊎ Contains (leaks rank down routes) item → IsOf rank down (r ∷ routes) item
first-or-rest rank down r routes item is more (inl same) = (r, contains_first r routes, is, sym same)
first-or-rest rank down r routes item is more (inr there) = IsOf-rest rank down r routes item (more there)

abbrev with_first : Rank → Bool → Route → List Route → Bool → List PrefixItem
with_first rank down r routes t = map (leaked down) (cond t (r ∷ filter (has_rank rank) routes) (filter (has_rank rank) routes))

by-test : (rank : Rank) (down : Bool) (r : Route) (routes : List Route) (item : PrefixItem) (t : Bool) → has_rank rank r ≡ t → (Contains (leaks rank down routes) item → IsOf rank down routes item) → Contains (leaks rank down (r ∷ routes)) item → IsOf rank down (r ∷ routes) item
by-test rank down r routes item true is more there =
    let here = subst (λ (t : Bool). Contains (with_first rank down r routes t) item) is there in
    first-or-rest rank down r routes item is more (contains_cases (leaked down r) item (leaks rank down routes) here)
by-test rank down r routes item false is more there =
    IsOf-rest rank down r routes item (more (subst (λ (t : Bool). Contains (with_first rank down r routes t) item) is there))

pub leaks-of : (rank : Rank) (down : Bool) (routes : List Route) (item : PrefixItem) → Contains (leaks rank down routes) item → IsOf rank down routes item
leaks-of rank down [] item there = absurd (contains_none item there)
leaks-of rank down (r ∷ routes) item there =
    by-test rank down r routes item (has_rank rank r) refl (leaks-of rank down routes item) there

pub rank-one : (rank : Rank) → eqb (rank_number rank) 1 ≡ true → rank ≡ One
rank-one Own e = cc
rank-one One e = refl
rank-one Two e = cc
rank-one OneDown e = cc
rank-one Default e = cc

pub rank-two : (rank : Rank) → eqb (rank_number rank) 2 ≡ true → rank ≡ Two
rank-two Own e = cc
rank-two One e = cc
rank-two Two e = refl
rank-two OneDown e = cc
rank-two Default e = cc
