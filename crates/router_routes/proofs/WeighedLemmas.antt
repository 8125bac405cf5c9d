-- Candidates among which routes are chosen: ways by default may be there though others are for 0.0.0.0/0.
use Rattle.std.proofs.Common.{◌≡◌, ◌∙◌, ℕ, ◌<◌, ◌==◌, Bool, true, false, ◌&&◌, not, List, [], ◌∷◌, ◌++◌, ◌⊎◌, map, filter, append-nil, Option, None, Some, refl, sym, ap, subst, arith, inl, inr, if◌then◌else◌}
use Rattle.std.specs.List.{Contains, flat_map, list_any}
use Rattle.std.proofs.lemmas.Bool.{and_parts, eqb-true}
use Rattle.std.proofs.lemmas.List.Elements.{Contains-append_left, Contains-append_right, Contains-append_cases, filter-append}
use Rattle.isis_base.specs.declared.identifiers.NodeId.{NodeId}
use Rattle.isis_base.specs.declared.identifiers.SystemId.{SystemId}
use Rattle.isis_base.specs.declared.identifiers.LspId.{LspId}
use Rattle.isis_base.specs.declared.level.Level.{Level}
use Rattle.isis_base.specs.declared.level.Level.TheVariants as level
use Rattle.isis_base.specs.declared.prefix.Prefix.{Prefix}
use Rattle.isis_base.specs.Prefixes as base
use Rattle.isis_base.specs.Prefixes.{prefix_from}
use Rattle.isis_base.proofs.PrefixValues.{prefix_from-prefix}
use Rattle.isis_tlv.specs.declared.prefix.PrefixItem.{PrefixItem}
use Rattle.lsp_store.specs.declared.entry.Entry.{Entry}
use Rattle.lsp_view.specs.Views.{own_node, reach_in}
use Rattle.model_router.specs.Both.{runs_of}
use Rattle.spf_tree.proofs.SearchLemmas.{contains_cases, contains_none}
use Rattle.route_table.specs.declared.candidate.Candidate.{Candidate}
use Rattle.route_table.specs.declared.rank.Rank.{Rank}
use Rattle.route_table.specs.declared.rank.Rank.TheVariants as rank
use Rattle.route_table.specs.declared.route.Route.{Route}
use Rattle.route_table.specs.Ranks.{prefix_number, rank_number}
use Rattle.route_table.specs.Routes.{AreRoutes, IsLike, IsNoWorse, IsRoute}
use Rattle.route_table.proofs.OrderLemmas.{routes_by}
use Rattle.router_routes.specs.declared.view.View.{View}
use Rattle.router_routes.specs.Outlooks.{Outlook}
use Rattle.router_routes.specs.Candidates.{attached_of, candidates_of, default_by, default_of, defaults, firm_candidates, has_bit, is_default, is_for_all, is_weighed, level_candidates, level_ways, may_default, own_candidate, rank_in, reached_in, system_candidates, system_ways, told_candidate, ways_of, weighed_of}
use Rattle.router_routes.specs.Kept.{AreReached, AreSame}
use Rattle.router_routes.specs.Moved.{outlook_at}
use Rattle.router_routes.specs.Ways.{AreWays, is_for, number_of, weighed_at, ways_in}
use Rattle.router_routes.proofs.KeptLemmas.{filter-in, flat-in, in-filter, in-flat}
use Rattle.router_routes.proofs.BesideLemmas.{any-in, same-append, same-both, same-filter, same-refl}
use Rattle.router_routes.proofs.NumberLemmas.{moved-there, there-moved}

abbrev Pair : Type 0
Pair = LspId × Entry

abbrev Reached : Type 0
Reached = SystemId × ℕ

-- routes of candidates are those of the same candidates in another order
pub routes-same : (hop_to : Candidate → ℕ → Type 0) (cs ds : List Candidate) (routes : List Route) → AreSame cs ds → AreRoutes hop_to cs routes → AreRoutes hop_to ds routes
routes-same hop_to cs ds routes same are = routes_by hop_to hop_to cs ds routes (λ c. (same c).1) (λ c. (same c).0) (λ c hop. ((λ x. x), (λ x. x))) are

-- ---- ways by default are for 0.0.0.0/0, and of the last rank

whole : Prefix
whole = record { address = 0; length = 0; fits = omega arith; clear = refl }

abbrev IsLast : Candidate → Type 0
IsLast c = (prefix_number c.prefix ≡ 0) × (c.rank ≡ rank.Default)

last-by : (s : Reached) (p : Option Prefix) (c : Candidate) → p ≡ Some whole → Contains (default_by p s) c → IsLast c
unfolding whole
last-by s None c e there = absurd (contains_none c there)
last-by s (Some all) c e there =
    elim (contains_cases _ c [] there) [
      | inl same ↦ (ap (λ (x : Candidate). prefix_number x.prefix) (sym same) ∙ number-by (Some all) all refl e, ap (λ (x : Candidate). x.rank) (sym same))
      | inr none ↦ absurd (contains_none c none)
    ]
  where
    prefix-or : Option Prefix → ℕ
    prefix-or None = 0
    prefix-or (Some q) = prefix_number q

    number-by : (p : Option Prefix) (q : Prefix) → p ≡ Some q → p ≡ Some whole → prefix_number q ≡ 0
    number-by p q a b = sym (ap prefix-or a) ∙ ap prefix-or b

last-step : (s : Reached) (c : Candidate) (t : Bool) → Contains (if t then default_by (prefix_from 0 0) s else []) c → IsLast c
unfolding whole
last-step s c true there = last-by s (prefix_from 0 0) c (prefix_from-prefix whole 0 0 refl refl) there
last-step s c false there = absurd (contains_none c there)

default-last : (told : List Pair) (root : NodeId) (c : Candidate) → Contains (defaults told root) c → IsLast c
unfolding defaults
default-last told root c there = let o = flat-in (default_of told) (reached_in told root) c there in last-step o.0 c (has_bit told o.0) o.2

-- ---- all others are of other ranks

in-rank : (l : Level) (down : Bool) → is_default (rank_in l down) ≡ false
in-rank level.One true = refl
in-rank level.One false = refl
in-rank level.Two down = refl

items-firm : (l : Level) (s : Reached) (items : List PrefixItem) (c : Candidate) → Contains (map (told_candidate l s) items) c → is_default c.rank ≡ false
items-firm l s [] c there = absurd (contains_none c there)
items-firm l s (item ∷ items) c there =
    elim (contains_cases (told_candidate l s item) c (map (told_candidate l s) items) there) [
      | inl same ↦ ap (λ (x : Candidate). is_default x.rank) (sym same) ∙ in-rank l item.down
      | inr more ↦ items-firm l s items c more
    ]

level-firm : (l : Level) (told : List Pair) (root : NodeId) (c : Candidate) → Contains (level_candidates l told root) c → is_default c.rank ≡ false
unfolding level_candidates
level-firm l told root c there = let o = flat-in (system_candidates l told) (reached_in told root) c there in items-firm l o.0 (reach_in told o.0.0) c o.2

own-firm : (root : NodeId) (prefixes : List (Prefix × ℕ)) (c : Candidate) → Contains (map (own_candidate root) prefixes) c → is_default c.rank ≡ false
own-firm root [] c there = absurd (contains_none c there)
own-firm root (own ∷ prefixes) c there =
    elim (contains_cases (own_candidate root own) c (map (own_candidate root) prefixes) there) [
      | inl same ↦ ap (λ (x : Candidate). is_default x.rank) (sym same)
      | inr more ↦ own-firm root prefixes c more
    ]

abbrev Told : Outlook → List Candidate
Told o = level_candidates level.One o.told.one o.root ++ level_candidates level.Two o.told.two o.root

told-firm : (o : Outlook) (c : Candidate) → Contains (Told o) c → is_default c.rank ≡ false
told-firm o c there =
    elim (Contains-append_cases (level_candidates level.One o.told.one o.root) (level_candidates level.Two o.told.two o.root) c there) [
      | inl one ↦ level-firm level.One o.told.one o.root c one
      | inr two ↦ level-firm level.Two o.told.two o.root c two
    ]

firm-is : (o : Outlook) → firm_candidates o ≡ map (own_candidate o.root) o.prefixes ++ Told o
unfolding firm_candidates
firm-is o = refl

firm-firm : (o : Outlook) (c : Candidate) → Contains (firm_candidates o) c → is_default c.rank ≡ false
firm-firm o c there =
    elim (Contains-append_cases (map (own_candidate o.root) o.prefixes) (Told o) c (subst (λ (l : List Candidate). Contains l c) (firm-is o) there)) [
      | inl own ↦ own-firm o.root o.prefixes c own
      | inr told ↦ told-firm o c told
    ]

-- ---- what levels tell is of both kinds

ways-split : (o : Outlook) (c : Candidate) → Contains (ways_of o) c → Contains (Told o) c ⊎ Contains (defaults o.told.one o.root) c
unfolding ways_of level_ways level_candidates defaults
ways-split o c there =
    elim (Contains-append_cases (flat_map (system_ways level.One o.told.one) (reached_in o.told.one o.root)) (flat_map (system_ways level.Two o.told.two) (reached_in o.told.two o.root)) c there) [
      | inl one ↦
          let x = flat-in (system_ways level.One o.told.one) (reached_in o.told.one o.root) c one in
          elim (Contains-append_cases (system_candidates level.One o.told.one x.0) (default_of o.told.one x.0) c x.2) [
            | inl tells ↦ inl (Contains-append_left (flat_map (system_candidates level.One o.told.one) (reached_in o.told.one o.root)) (flat_map (system_candidates level.Two o.told.two) (reached_in o.told.two o.root)) c (in-flat (system_candidates level.One o.told.one) (reached_in o.told.one o.root) x.0 c x.1 tells))
            | inr way ↦ inr (in-flat (default_of o.told.one) (reached_in o.told.one o.root) x.0 c x.1 way)
          ]
      | inr two ↦
          let x = flat-in (system_ways level.Two o.told.two) (reached_in o.told.two o.root) c two in
          inl (Contains-append_right (flat_map (system_candidates level.One o.told.one) (reached_in o.told.one o.root)) (flat_map (system_candidates level.Two o.told.two) (reached_in o.told.two o.root)) c (in-flat (system_candidates level.Two o.told.two) (reached_in o.told.two o.root) x.0 c x.1 x.2))
    ]

told-way : (o : Outlook) (c : Candidate) → Contains (Told o) c → Contains (ways_of o) c
unfolding ways_of level_ways level_candidates
told-way o c there =
    elim (Contains-append_cases (flat_map (system_candidates level.One o.told.one) (reached_in o.told.one o.root)) (flat_map (system_candidates level.Two o.told.two) (reached_in o.told.two o.root)) c there) [
      | inl one ↦
          let x = flat-in (system_candidates level.One o.told.one) (reached_in o.told.one o.root) c one in
          Contains-append_left (flat_map (system_ways level.One o.told.one) (reached_in o.told.one o.root)) (flat_map (system_ways level.Two o.told.two) (reached_in o.told.two o.root)) c
          (in-flat (system_ways level.One o.told.one) (reached_in o.told.one o.root) x.0 c x.1 (Contains-append_left (system_candidates level.One o.told.one x.0) (default_of o.told.one x.0) c x.2))
      | inr two ↦
          let x = flat-in (system_candidates level.Two o.told.two) (reached_in o.told.two o.root) c two in
          Contains-append_right (flat_map (system_ways level.One o.told.one) (reached_in o.told.one o.root)) (flat_map (system_ways level.Two o.told.two) (reached_in o.told.two o.root)) c
          (in-flat (system_ways level.Two o.told.two) (reached_in o.told.two o.root) x.0 c x.1 x.2)
    ]

default-way : (o : Outlook) (c : Candidate) → Contains (defaults o.told.one o.root) c → Contains (ways_of o) c
unfolding ways_of level_ways defaults
default-way o c there =
    let x = flat-in (default_of o.told.one) (reached_in o.told.one o.root) c there in
    Contains-append_left (flat_map (system_ways level.One o.told.one) (reached_in o.told.one o.root)) (flat_map (system_ways level.Two o.told.two) (reached_in o.told.two o.root)) c
    (in-flat (system_ways level.One o.told.one) (reached_in o.told.one o.root) x.0 c x.1 (Contains-append_right (system_candidates level.One o.told.one x.0) (default_of o.told.one x.0) c x.2))

-- one of the last rank is for 0.0.0.0/0
pub default-zero : (o : Outlook) (c : Candidate) → Contains (ways_of o) c → is_default c.rank ≡ true → prefix_number c.prefix ≡ 0
default-zero o c there last =
    elim (ways-split o c there) [
      | inl told ↦ absurd (let e : false ≡ true = sym (told-firm o c told) ∙ last in cc)
      | inr way ↦ (default-last o.told.one o.root c way).0
    ]

-- ---- ways by default where they may count

weighed-firm : (may : Bool) (c : Candidate) → is_default c.rank ≡ false → is_weighed may c ≡ true
weighed-firm true c is = refl
weighed-firm false c is = ap not is

abbrev Near : Outlook → List Candidate
Near o = firm_candidates o ++ (if may_default o then defaults o.told.one o.root else [])

way-to : (firm ways : List Candidate) (may : Bool) (c : Candidate) → Contains ways c → c.rank ≡ rank.Default → is_weighed may c ≡ true → Contains (firm ++ (if may then ways else [])) c
way-to firm ways true c there last is = Contains-append_right firm ways c there
way-to firm ways false c there last is = absurd (let e : false ≡ true = sym (ap (λ (r : Rank). not (is_default r)) last) ∙ is in cc)

way-from : (ways : List Candidate) (may : Bool) (c : Candidate) → Contains (if may then ways else []) c → Contains ways c × (is_weighed may c ≡ true)
way-from ways true c there = (there, refl)
way-from ways false c there = absurd (contains_none c there)

near-to : (o : Outlook) (c : Candidate) → Contains (weighed_of o) c → Contains (Near o) c
unfolding weighed_of
near-to o c there =
    let more = if may_default o then defaults o.told.one o.root else [] in
    elim (Contains-append_cases (map (own_candidate o.root) o.prefixes) (filter (is_weighed (may_default o)) (ways_of o)) c there) [
      | inl own ↦ Contains-append_left (firm_candidates o) more c (subst (λ (l : List Candidate). Contains l c) (sym (firm-is o)) (Contains-append_left (map (own_candidate o.root) o.prefixes) (Told o) c own))
      | inr way ↦
          let x = filter-in (is_weighed (may_default o)) (ways_of o) c way in
          elim (ways-split o c x.0) [
            | inl told ↦ Contains-append_left (firm_candidates o) more c (subst (λ (l : List Candidate). Contains l c) (sym (firm-is o)) (Contains-append_right (map (own_candidate o.root) o.prefixes) (Told o) c told))
            | inr last ↦ way-to (firm_candidates o) (defaults o.told.one o.root) (may_default o) c last (default-last o.told.one o.root c last).1 x.1
          ]
    ]

near-from : (o : Outlook) (c : Candidate) → Contains (Near o) c → Contains (weighed_of o) c
unfolding weighed_of
near-from o c there =
    let own = map (own_candidate o.root) o.prefixes in
    let ways = filter (is_weighed (may_default o)) (ways_of o) in
    elim (Contains-append_cases (firm_candidates o) (if may_default o then defaults o.told.one o.root else []) c there) [
      | inl firm ↦
          elim (Contains-append_cases own (Told o) c (subst (λ (l : List Candidate). Contains l c) (firm-is o) firm)) [
            | inl is ↦ Contains-append_left own ways c is
            | inr told ↦ Contains-append_right own ways c (in-filter (is_weighed (may_default o)) (ways_of o) c (told-way o c told) (weighed-firm (may_default o) c (told-firm o c told)))
          ]
      | inr way ↦
          let x = way-from (defaults o.told.one o.root) (may_default o) c way in
          Contains-append_right own ways c (in-filter (is_weighed (may_default o)) (ways_of o) c (default-way o c x.0) x.1)
    ]

near-same : (o : Outlook) → AreSame (weighed_of o) (Near o)
near-same o c = (near-to o c, near-from o c)

near-back : (o : Outlook) → AreSame (Near o) (weighed_of o)
near-back o c = (near-from o c, near-to o c)

-- ---- where another is for 0.0.0.0/0, ways by default change no route

firm-rank : (r : Rank) → is_default r ≡ false → rank_number r < 4
firm-rank rank.Own is = omega arith
firm-rank rank.One is = omega arith
firm-rank rank.Two is = omega arith
firm-rank rank.OneDown is = omega arith
firm-rank rank.Default is = absurd (let e : true ≡ false = is in cc)

no-worse : (rank cost other less : ℕ) → rank ≡ 4 → other < 4 → IsNoWorse rank cost other less → ⊥
no-worse rank cost other less is few (inl lt) = omega (arith, is, few, lt)
no-worse rank cost other less is few (inr same) = let e = same.0 in omega (arith, is, few, e)

module _ (HopTo : Candidate → ℕ → Type 0) (firm ways : List Candidate) (last : (c : Candidate) → Contains ways c → IsLast c) (are : (c : Candidate) → Contains firm c → is_default c.rank ≡ false) (has : (c : Candidate) × Contains firm c × (prefix_number c.prefix ≡ 0)) where
  fourth : (c : Candidate) → Contains ways c → rank_number c.rank ≡ 4
  fourth c there = ap rank_number (last c there).1

  -- no route is like a way by default
  none-like : (route : Route) → IsRoute HopTo (firm ++ ways) route → (c : Candidate) → Contains ways c → IsLike route c → ⊥
  none-like route is c there like =
      let d = has.0 in
      let zero = (last c there).0 in
      let four = fourth c there in
      let here = has.2 in
      let a = like.0 in
      let b = like.1 in
      let best = is.best d (Contains-append_left firm ways d has.1) (omega (arith, zero, here, a)) in
      no-worse (rank_number route.rank) route.cost (rank_number d.rank) d.cost (omega (arith, four, b)) (firm-rank d.rank (are d has.1)) best

  firm-like : (route : Route) → IsRoute HopTo (firm ++ ways) route → (c : Candidate) → Contains (firm ++ ways) c → IsLike route c → Contains firm c
  firm-like route is c there like =
      elim (Contains-append_cases firm ways c there) [
        | inl here ↦ here
        | inr more ↦ absurd (none-like route is c more like)
      ]

  less-route : (route : Route) → IsRoute HopTo (firm ++ ways) route → IsRoute HopTo firm route
  less-route route is = record {
    some = let o = is.some in (o.0, firm-like route is o.0 o.1 o.2, o.2);
    best = λ c there. is.best c (Contains-append_left firm ways c there);
    rising = is.rising;
    hops = λ hop. (
      λ there. let o = (is.hops hop).0 there in (o.0, firm-like route is o.0 o.1 o.2, o.2, o.3),
      λ o. (is.hops hop).1 (o.0, Contains-append_left firm ways o.0 o.1, o.2, o.3),
    );
  }

  less : (routes : List Route) → AreRoutes HopTo (firm ++ ways) routes → AreRoutes HopTo firm routes
  less routes r = record {
    rising = r.rising;
    each = λ route there. less-route route (r.each route there);
    all = λ c there. r.all c (Contains-append_left firm ways c there);
  }

  -- a route of the others is of a better rank
  below : (route : Route) → IsRoute HopTo firm route → rank_number route.rank < 4
  below route is = let o = is.some in let b = o.2.1 in let few = firm-rank o.0.rank (are o.0 o.1) in omega (arith, b, few)

  other-like : (route : Route) → IsRoute HopTo firm route → (c : Candidate) → Contains (firm ++ ways) c → IsLike route c → Contains firm c
  other-like route is c there like =
      elim (Contains-append_cases firm ways c there) [
        | inl here ↦ here
        | inr more ↦ absurd (let four = fourth c more in let b = like.1 in let few = below route is in omega (arith, four, b, few))
      ]

  more-route : (route : Route) → IsRoute HopTo firm route → IsRoute HopTo (firm ++ ways) route
  more-route route is = record {
    some = let o = is.some in (o.0, Contains-append_left firm ways o.0 o.1, o.2);
    best = λ c there same.
        elim (Contains-append_cases firm ways c there) [
          | inl here ↦ is.best c here same
          | inr more ↦ inl (let four = fourth c more in let few = below route is in omega (arith, four, few))
        ];
    rising = is.rising;
    hops = λ hop. (
      λ there. let o = (is.hops hop).0 there in (o.0, Contains-append_left firm ways o.0 o.1, o.2, o.3),
      λ o. (is.hops hop).1 (o.0, other-like route is o.0 o.1 o.2, o.2, o.3),
    );
  }

  more : (routes : List Route) → AreRoutes HopTo firm routes → AreRoutes HopTo (firm ++ ways) routes
  more routes r = record {
    rising = r.rising;
    each = λ route there. more-route route (r.each route there);
    all = λ c there.
        elim (Contains-append_cases firm ways c there) [
          | inl here ↦ r.all c here
          | inr way ↦ let zero = (last c way).0 in let here = has.2 in let o = r.all has.0 has.1 in let e = o.2 in (o.0, o.1, omega (arith, zero, here, e))
        ];
  }

zero-of : (c : Candidate) → is_for_all c ≡ true → prefix_number c.prefix ≡ 0
zero-of c is =
    let both = and_parts (c.prefix.address == 0) (c.prefix.length == 0) is in
    let address = eqb-true c.prefix.address 0 both.0 in
    let long = eqb-true c.prefix.length 0 both.1 in
    omega (arith, address, long)

for-all : (firm : List Candidate) → list_any is_for_all firm ≡ true → (c : Candidate) × Contains firm c × (prefix_number c.prefix ≡ 0)
for-all firm any = let o = any-in is_for_all firm any in (o.0, o.1, zero-of o.0 o.2)

to-counted : (HopTo : Candidate → ℕ → Type 0) (firm ways : List Candidate) → ((c : Candidate) → Contains ways c → IsLast c) → ((c : Candidate) → Contains firm c → is_default c.rank ≡ false) → (may any : Bool) → list_any is_for_all firm ≡ any → (routes : List Route) → AreRoutes HopTo (firm ++ (if may then ways else [])) routes → AreRoutes HopTo (firm ++ (if may && not any then ways else [])) routes
to-counted HopTo firm ways last are false any is routes r = r
to-counted HopTo firm ways last are true false is routes r = r
to-counted HopTo firm ways last are true true is routes r = subst (λ (l : List Candidate). AreRoutes HopTo l routes) (sym (append-nil firm)) (less HopTo firm ways last are (for-all firm is) routes r)

from-counted : (HopTo : Candidate → ℕ → Type 0) (firm ways : List Candidate) → ((c : Candidate) → Contains ways c → IsLast c) → ((c : Candidate) → Contains firm c → is_default c.rank ≡ false) → (may any : Bool) → list_any is_for_all firm ≡ any → (routes : List Route) → AreRoutes HopTo (firm ++ (if may && not any then ways else [])) routes → AreRoutes HopTo (firm ++ (if may then ways else [])) routes
from-counted HopTo firm ways last are false any is routes r = r
from-counted HopTo firm ways last are true false is routes r = r
from-counted HopTo firm ways last are true true is routes r = more HopTo firm ways last are (for-all firm is) routes (subst (λ (l : List Candidate). AreRoutes HopTo l routes) (append-nil firm) r)

pub weighed-routes : (HopTo : Candidate → ℕ → Type 0) (o : Outlook) (routes : List Route) → AreRoutes HopTo (weighed_of o) routes → AreRoutes HopTo (candidates_of o) routes
unfolding candidates_of
weighed-routes HopTo o routes r =
    to-counted HopTo (firm_candidates o) (defaults o.told.one o.root) (default-last o.told.one o.root) (firm-firm o) (may_default o) (list_any is_for_all (firm_candidates o)) refl routes
    (routes-same HopTo (weighed_of o) (Near o) routes (near-same o) r)

pub routes-weighed : (HopTo : Candidate → ℕ → Type 0) (o : Outlook) (routes : List Route) → AreRoutes HopTo (candidates_of o) routes → AreRoutes HopTo (weighed_of o) routes
unfolding candidates_of
routes-weighed HopTo o routes r =
    routes-same HopTo (Near o) (weighed_of o) routes (near-back o)
    (from-counted HopTo (firm_candidates o) (defaults o.told.one o.root) (default-last o.told.one o.root) (firm-firm o) (may_default o) (list_any is_for_all (firm_candidates o)) refl routes r)

-- ---- as they are put together

-- a prefix has one number in both words
pub number-is : (p : Prefix) → base.prefix_number p ≡ prefix_number p
number-is p = omega arith

pub weighed-are : (view : View) (told l m n : List Candidate) (may attached : Bool) → AreReached (outlook_at view) told attached → may ≡ ((runs_of view.levels).one && not attached) → l ≡ [] → m ≡ l ++ map (own_candidate (own_node view.system)) view.prefixes.now → n ≡ m ++ filter (is_weighed may) told → AreSame n (weighed_of (outlook_at view))
unfolding outlook_at weighed_of
weighed-are view told l m n may attached reached is e f g =
    let own = map (own_candidate (own_node view.system)) view.prefixes.now in
    let whole = ways_of (outlook_at view) in
    let count : may ≡ may_default (outlook_at view) = is ∙ ap (λ (t : Bool). (runs_of view.levels).one && not t) reached.attached in
    let first : m ≡ own = f ∙ ap (λ (x : List Candidate). x ++ own) e in
    same-both n (own ++ filter (is_weighed may) told) (weighed_of (outlook_at view)) (same-refl n _ (g ∙ ap (λ (x : List Candidate). x ++ filter (is_weighed may) told) first))
    (same-append own (filter (is_weighed may) told) own (filter (is_weighed (may_default (outlook_at view))) whole) (same-refl own own refl)
    (subst (λ (t : Bool). AreSame (filter (is_weighed may) told) (filter (is_weighed t) whole)) count (same-filter (is_weighed may) told whole reached.told)))

-- those of some prefixes, row by row
rows-for : (table : List (ℕ × List Candidate)) (list : List Candidate) (may : Bool) (numbers : List ℕ) → AreWays table list → AreSame (flat_map (weighed_at may table) numbers) (filter (is_for numbers) (filter (is_weighed may) list))
rows-for table list may numbers are c = (
  (λ there.
      let o = flat-in (weighed_at may table) numbers c there in
      let x = filter-in (is_weighed may) (ways_in table o.0) c o.2 in
      let y = (are o.0 c).0 x.0 in
      in-filter (is_for numbers) (filter (is_weighed may) list) c (in-filter (is_weighed may) list c y.0 x.1) (there-moved numbers (number_of c) (subst (λ (n : ℕ). Contains numbers n) (sym y.1) o.1))),
  (λ there.
      let x = filter-in (is_for numbers) (filter (is_weighed may) list) c there in
      let y = filter-in (is_weighed may) list c x.0 in
      in-flat (weighed_at may table) numbers (number_of c) c (moved-there numbers (number_of c) x.1) (in-filter (is_weighed may) (ways_in table (number_of c)) c ((are (number_of c) c).1 (y.0, refl)) y.1)),
)

pub weighed-for : (view : View) (table : List (ℕ × List Candidate)) (l m n : List Candidate) (may attached : Bool) (numbers : List ℕ) → AreWays table (ways_of (outlook_at view)) → attached ≡ attached_of (outlook_at view) → may ≡ ((runs_of view.levels).one && not attached) → l ≡ [] → m ≡ l ++ filter (is_for numbers) (map (own_candidate (own_node view.system)) view.prefixes.now)
    → n ≡ m ++ flat_map (weighed_at may table) numbers → AreSame n (filter (is_for numbers) (weighed_of (outlook_at view)))
unfolding outlook_at weighed_of
weighed-for view table l m n may attached numbers are bit is e f g =
    let own = map (own_candidate (own_node view.system)) view.prefixes.now in
    let its = filter (is_for numbers) own in
    let whole = ways_of (outlook_at view) in
    let rows = flat_map (weighed_at may table) numbers in
    let count : may ≡ may_default (outlook_at view) = is ∙ ap (λ (t : Bool). (runs_of view.levels).one && not t) bit in
    let first : m ≡ its = f ∙ ap (λ (x : List Candidate). x ++ its) e in
    same-both n (its ++ rows) (filter (is_for numbers) (weighed_of (outlook_at view))) (same-refl n _ (g ∙ ap (λ (x : List Candidate). x ++ rows) first))
    (subst (λ (l : List Candidate). AreSame (its ++ rows) l) (sym (filter-append (is_for numbers) own (filter (is_weighed (may_default (outlook_at view))) whole)))
    (same-append its rows its (filter (is_for numbers) (filter (is_weighed (may_default (outlook_at view))) whole)) (same-refl its its refl)
    (subst (λ (t : Bool). AreSame rows (filter (is_for numbers) (filter (is_weighed t) whole))) count (rows-for table whole may numbers are))))
