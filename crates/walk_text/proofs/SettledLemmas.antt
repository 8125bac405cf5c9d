-- The numbers of prefixes that are listed, sorted, beside those of a router's own routes.
use Rattle.std.proofs.Common.{◌≡◌, ℕ, suc, ◌+◌, ◌*◌, ◌^◌, ◌/◌, ◌%◌, ◌<◌, ◌≤◌, ◌==◌, Bool, true, false, List, [], ◌∷◌, ◌++◌, map, filter, length, get_or, if◌then◌else◌, MatchBool, IsPermutation, nat_cmp, refl, sym, ap, ◌∙◌, subst, arith, inl, inr}
use Rattle.std.specs.Bool.{Decides}
use Rattle.std.specs.List.{AllByRecursion, Contains, sum_by, list_any}
use Rattle.std.specs.List.Sorted.{IsSorted, IsNonDecreasing}
use Rattle.std.proofs.lemmas.Bool.{cases_lt, ne_eqb, eq-eqb}
use Rattle.std.proofs.lemmas.List.{append_assoc, append-nil}
use Rattle.std.proofs.lemmas.List.Sums.{sum_by-cons}
use Rattle.std.proofs.lemmas.List.Sorted.{IsPermutation-map, IsNonDecreasingBy-from_sort, sum_by-IsPermutation}
use Rattle.route_table.specs.declared.route.Route.{Route}
use Rattle.route_table.specs.Ranks.{prefix_number}
use Rattle.route_table.specs.Routes.{AreRising}
use Rattle.isis_base.specs.declared.identifiers.SystemId.{SystemId}
use Rattle.isis_base.specs.declared.identifiers.NodeId.{NodeId}
use Rattle.isis_base.specs.declared.identifiers.LspId.{LspId}
use Rattle.isis_tlv.specs.declared.prefix.PrefixItem.{PrefixItem}
use Rattle.model_router.specs.Routers.{Router}
use Rattle.lsp_store.specs.declared.entry.Entry.{Entry}
use Rattle.lsp_store.specs.Maps.{RisesFrom}
use Rattle.lsp_view.specs.Views.{own_node, lead_of, reach_in, attached_at}
use Rattle.router_routes.specs.Told.{told_in}
use Rattle.router_routes.specs.Outlooks.{outlook_of}
use Rattle.router_routes.proofs.ToldLemmas.{reach-told, attached-told}
use Rattle.forward_views.specs.Looks.{Look, outlook, told_of, own_items, item_way, is_own, way_of, own_ways, IsSettled}
use Rattle.walk_text.proofs.ListLemmas.{any-contains, contains-any}
use Rattle.walk_text.specs.Ways.{way_number, AreSmall}

abbrev Way : Type 0
Way = ℕ × ℕ

-- ---- a loop that lists numbers

abbrev Left : List ℕ → List Way → List Way → Type 0
Left done left whole = (done ++ map way_number left ≡ map way_number whole) × (AreSmall left → AreSmall whole)

pub one-more : (new old : List ℕ) (left rest whole : List Way) (way : Way) (n : ℕ) → left ≡ way ∷ rest → new ≡ old ++ (n ∷ []) → n ≡ way_number way → way.1 < 2 ^ 64 → Left old left whole → Left new rest whole
one-more new old left rest whole way n opens e same small h = (
  ap (λ (l : List ℕ). l ++ map way_number rest) e ∙ (append_assoc old (n ∷ []) (map way_number rest)
      ∙ (ap (λ (k : ℕ). old ++ (k ∷ map way_number rest)) same ∙ (ap (λ (l : List Way). old ++ map way_number l) (sym opens) ∙ h.0))),
  λ rest_small. h.1 (subst AreSmall (sym opens) (small, rest_small)),
)

pub same-more : (new old : List ℕ) (left rest whole : List Way) → left ≡ rest → new ≡ old → Left old left whole → Left new rest whole
same-more new old left rest whole opens e h = (
  ap (λ (l : List ℕ). l ++ map way_number rest) e ∙ (ap (λ (l : List Way). old ++ map way_number l) (sym opens) ∙ h.0),
  λ rest_small. h.1 (subst AreSmall (sym opens) rest_small),
)

pub none-left : (done : List ℕ) (left whole : List Way) → left ≡ [] → Left done left whole → (done ≡ map way_number whole) × AreSmall whole
none-left done left whole e h = (
  sym (append-nil done) ∙ (ap (λ (l : List Way). done ++ map way_number l) (sym e) ∙ h.0),
  h.1 (subst AreSmall (sym e) tt),
)

-- one's own routes, before a route that is one's own or isn't
pub own-first : (left rest : List Route) (r : Route) → left ≡ r ∷ rest → (t : Bool) → is_own r ≡ t → own_ways left ≡ map way_of (if t then r ∷ filter is_own rest else filter is_own rest)
own-first left rest r opens t is = ap own_ways opens ∙ ap (λ (b : Bool). map way_of (if b then r ∷ filter is_own rest else filter is_own rest)) is

-- ---- numbers and what they are of

abbrev way_at : ℕ → Way
way_at n = (n / 2 ^ 64, n % 2 ^ 64)

way-back : (way : Way) → way.1 < 2 ^ 64 → way_at (way_number way) ≡ way
way-back way small =
    let a : (way.0 * 2 ^ 64 + way.1) / 2 ^ 64 ≡ way.0 = omega (arith, small) in
    let b : (way.0 * 2 ^ 64 + way.1) % 2 ^ 64 ≡ way.1 = omega (arith, small) in
    (λ i. (a i, b i))

ways-back : (ways : List Way) → AreSmall ways → map way_at (map way_number ways) ≡ ways
ways-back [] small = refl
ways-back (way ∷ ways) small = both (way-back way small.0) (ways-back ways small.1)
  where
    both : {a b : Way} {xs ys : List Way} → a ≡ b → xs ≡ ys → a ∷ xs ≡ b ∷ ys
    both p q = cc

-- ---- lists in order

abbrev Above : ℕ → List ℕ → Type 0
Above n xs = AllByRecursion (λ (y : ℕ). n ≤ y) xs

abbrev Up : List ℕ → Type 0
Up [] = Unit {0}
Up (x ∷ xs) = Above x xs × Up xs

above-of : (x : ℕ) (xs : List ℕ) → ((k : ℕ) (d : ℕ) → k < length xs → x ≤ get_or xs k d) → Above x xs
above-of x [] h = tt
above-of x (y ∷ ys) h = (h 0 x (omega arith), above-of x ys (λ k d l. h (suc k) d (omega (arith, l))))

up-of : (xs : List ℕ) → IsNonDecreasing xs → Up xs
up-of [] h = tt
up-of (x ∷ xs) h = (above-of x xs (λ k d l. h 0 (suc k) d (omega arith) (omega (arith, l))), up-of xs (λ i j d le lt. h (suc i) (suc j) d (omega (arith, le)) (omega (arith, lt))))

abbrev one : ℕ → ℕ → ℕ
one x z = if z == x then 1 else 0

one-self : (x : ℕ) → one x x ≡ 1
one-self x = ap (λ (b : Bool). if b then 1 else 0) (eq-eqb x x refl)

none-above : (x y : ℕ) (ys : List ℕ) → Above y ys → x < y → sum_by (one x) ys ≡ 0
none-above x y [] h less = refl
none-above x y (z ∷ ys) h less =
    let le = h.0 in
    let first : one x z ≡ 0 = ap (λ (b : Bool). if b then 1 else 0) (ne_eqb z x (λ e. absurd (omega (arith, e, le, less)))) in
    let rest = none-above x y ys h.1 less in
    let whole = sum_by-cons (one x) z ys in
    omega (arith, first, rest, whole)

not-less : (x y : ℕ) (xs ys : List ℕ) → Above y ys → sum_by (one x) (x ∷ xs) ≡ sum_by (one x) (y ∷ ys) → x < y → ⊥
not-less x y xs ys up same less =
    let a = sum_by-cons (one x) x xs in
    let b = one-self x in
    let c = none-above x y (y ∷ ys) (omega arith, up) less in
    absurd (omega (arith, a, b, c, same))

one-order : (xs ys : List ℕ) → Up xs → Up ys → ((f : ℕ → ℕ) → sum_by f xs ≡ sum_by f ys) → xs ≡ ys
one-order [] [] p q same = refl
one-order [] (y ∷ ys) p q same = absurd (let e = same (λ (z : ℕ). 1) in let a = sum_by-cons (λ (z : ℕ). 1) y ys in omega (arith, e, a))
one-order (x ∷ xs) [] p q same = absurd (let e = same (λ (z : ℕ). 1) in let a = sum_by-cons (λ (z : ℕ). 1) x xs in omega (arith, e, a))
one-order (x ∷ xs) (y ∷ ys) p q same = both first (one-order xs ys p.1 q.1 rest)
  where
    first : x ≡ y
    first =
        elim (cases_lt x y) [
          | inl less ↦ absurd (not-less x y xs ys q.0 (same (one x)) less)
          | inr le ↦
              elim (cases_lt y x) [
                | inl less ↦ absurd (not-less y x ys xs p.0 (sym (same (one y))) less)
                | inr ge ↦ omega (arith, le, ge)
              ]
        ]

    rest : (f : ℕ → ℕ) → sum_by f xs ≡ sum_by f ys
    rest f =
        let a = sum_by-cons f x xs in
        let b = sum_by-cons f y ys in
        let e = same f in
        let g = ap f first in
        omega (arith, a, b, e, g)

    both : {a b : ℕ} {us vs : List ℕ} → a ≡ b → us ≡ vs → a ∷ us ≡ b ∷ vs
    both k l = cc

-- ---- a router's own routes rise

abbrev numbers : List Route → List ℕ
numbers routes = map way_number (map way_of routes)

pick-above : (n : ℕ) (r : Route) (rest : List Route) → n ≤ way_number (way_of r) → Above n (numbers rest) → (t : Bool) → Above n (numbers (if t then r ∷ rest else rest))
pick-above n r rest le more true = (le, more)
pick-above n r rest le more false = more

above-own : (n : ℕ) (routes : List Route) → ((j : ℕ) (d : Route) → j < length routes → n ≤ way_number (way_of (get_or routes j d))) → Above n (numbers (filter is_own routes))
above-own n [] h = tt
above-own n (r ∷ routes) h = pick-above n r (filter is_own routes) (h 0 r (omega arith)) (above-own n routes (λ j d l. h (suc j) d (omega (arith, l)))) (is_own r)

pick-up : (r : Route) (rest : List Route) → (r.cost < 2 ^ 64 → Above (way_number (way_of r)) (numbers rest)) → (AreSmall (map way_of rest) → Up (numbers rest))
    → (t : Bool) → AreSmall (map way_of (if t then r ∷ rest else rest)) → Up (numbers (if t then r ∷ rest else rest))
pick-up r rest above more true small = (above small.0, more small.1)
pick-up r rest above more false small = more small

up-own : (routes : List Route) → ((i j : ℕ) (d : Route) → i < j → j < length routes → prefix_number (get_or routes i d).prefix < prefix_number (get_or routes j d).prefix)
    → AreSmall (own_ways routes) → Up (numbers (filter is_own routes))
up-own [] rise small = tt
up-own (r ∷ routes) rise small =
    pick-up r (filter is_own routes)
    (λ s. above-own (way_number (way_of r)) routes (λ j d l. let less = rise 0 (suc j) d (omega arith) (omega (arith, l)) in omega (arith, less, s)))
    (up-own routes (λ i j d less l. rise (suc i) (suc j) d (omega (arith, less)) (omega (arith, l))))
    (is_own r) small

-- ---- lists of numbers are equal just where what they are of has the same ways

pub ways-same : (r : Bool) (unsorted sorted : List ℕ) (own : List ℕ) (listed : List Way) (routes : List Route) → AreRising routes
    → unsorted ≡ map way_number listed → AreSmall listed → IsPermutation unsorted sorted → IsSorted nat_cmp sorted
    → own ≡ map way_number (own_ways routes) → AreSmall (own_ways routes) → Decides r (sorted ≡ own)
    → MatchBool r (IsPermutation listed (own_ways routes)) (IsPermutation listed (own_ways routes) → ⊥)
ways-same true unsorted sorted own listed routes rising e small moved up f small_own tells =
    let is = tells.0 refl in
    let moves : IsPermutation (map way_number listed) (map way_number (own_ways routes)) = subst (λ (l : List ℕ). IsPermutation l (map way_number (own_ways routes))) e (subst (IsPermutation unsorted) (is ∙ f) moved) in
    let back : IsPermutation (map way_at (map way_number listed)) (map way_at (map way_number (own_ways routes))) = IsPermutation-map way_at _ _ moves in
    subst (λ (l : List Way). IsPermutation l (own_ways routes)) (ways-back listed small) (subst (IsPermutation (map way_at (map way_number listed))) (ways-back (own_ways routes) small_own) back)
ways-same false unsorted sorted own listed routes rising e small moved up f small_own tells = λ moves.
    let there : IsPermutation (map way_number listed) (map way_number (own_ways routes)) = IsPermutation-map way_number _ _ moves in
    let sums : (g : ℕ → ℕ) → sum_by g sorted ≡ sum_by g own = λ g.
    sum_by-IsPermutation g unsorted sorted moved ∙ (ap (sum_by g) e ∙ (sym (sum_by-IsPermutation g _ _ there) ∙ ap (sum_by g) (sym f))) in
    let rises : Up own = subst Up (sym f) (up-own routes rising.below small_own) in
    let same : sorted ≡ own = one-order sorted own (up-of sorted (IsNonDecreasingBy-from_sort (λ (n : ℕ). n) sorted up)) rises sums in
    let clash : true ≡ false = sym (tells.1 same) in
    absurd (cc)

-- ---- what a database says of its own system

abbrev Pair : Type 0
Pair = LspId × Entry

module _ (look : Look) (r : Router) (entries : List Pair) (system : SystemId) (e : look.router ≡ r) (told : (outlook_of r).told.one ≡ told_in entries) (root : own_node system ≡ (outlook_of r).root) (rises : RisesFrom 0 entries) where
  told-is : told_of look ≡ told_in entries
  told-is = ap (λ (s : Router). (outlook_of s).told.one) e ∙ told

  root-is : (outlook look).root ≡ own_node system
  root-is = ap (λ (s : Router). (outlook_of s).root) e ∙ sym root

  pub items-are : own_items look ≡ reach_in entries system
  items-are =
      ap (λ (l : List Pair). reach_in l (outlook look).root.system) told-is
      ∙ (ap (λ (n : NodeId). reach_in (told_in entries) n.system) root-is ∙ reach-told entries rises system)

  pub attached-is : attached_at (lead_of (told_of look) (outlook look).root) ≡ attached_at (lead_of entries (own_node system))
  attached-is =
      ap (λ (l : List Pair). attached_at (lead_of l (outlook look).root)) told-is
      ∙ (ap (λ (n : NodeId). attached_at (lead_of (told_in entries) n)) root-is ∙ attached-told entries rises system)

abbrev pub came_down : PrefixItem → Bool
came_down item = item.down

pub none-attached : (look : Look) (t : Bool) → t ≡ true → t ≡ attached_at (lead_of (told_of look) (outlook look).root) → IsSettled look → ⊥
none-attached look t is e settled = let clash : true ≡ false = sym is ∙ (e ∙ settled.apart) in absurd (cc)

pub none-down : (look : Look) (items : List PrefixItem) → own_items look ≡ items → list_any came_down items ≡ true → IsSettled look → ⊥
none-down look items e is settled =
    let h = any-contains came_down items is in
    let clash : true ≡ false = sym h.2 ∙ settled.up h.0 (subst (λ (l : List PrefixItem). Contains l h.0) (sym e) h.1) in
    absurd (cc)

all-up : (items : List PrefixItem) → list_any came_down items ≡ false → (item : PrefixItem) → Contains items item → item.down ≡ false
all-up items none item there = by item.down refl
  where
    by : (t : Bool) → item.down ≡ t → item.down ≡ false
    by true t = absurd (let clash : true ≡ false = sym (contains-any came_down items item there t) ∙ none in cc)
    by false t = t

pub settled-by : (yes : Bool) (look : Look) (items : List PrefixItem) (routes : List Route) → own_items look ≡ items → look.routes ≡ routes
    → list_any came_down items ≡ false → attached_at (lead_of (told_of look) (outlook look).root) ≡ false
    → MatchBool yes (IsPermutation (map item_way items) (own_ways routes)) (IsPermutation (map item_way items) (own_ways routes) → ⊥)
    → MatchBool yes (IsSettled look) (IsSettled look → ⊥)
settled-by true look items routes e f none apart same = record {
  same = subst (λ (l : List PrefixItem). IsPermutation (map item_way l) (own_ways look.routes)) (sym e) (subst (λ (l : List Route). IsPermutation (map item_way items) (own_ways l)) (sym f) same);
  up = λ item there. all-up items none item (subst (λ (l : List PrefixItem). Contains l item) e there);
  apart = apart;
}
settled-by false look items routes e f none apart other = λ settled.
    other (subst (λ (l : List PrefixItem). IsPermutation (map item_way l) (own_ways routes)) e (subst (λ (l : List Route). IsPermutation (map item_way (own_items look)) (own_ways l)) f settled.same))
