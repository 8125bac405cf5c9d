-- That candidates have one list of routes, and an address one longest prefix.

use Rattle.std.proofs.Common.{◌≡◌, ◌∙◌, ℕ, zero, suc, ◌+◌, ◌-◌, ◌*◌, ◌/◌, ◌^◌, ◌≤◌, ◌<◌, List, [], ◌∷◌, length, get_or, refl, sym, ap, subst, arith, inl, inr}
use Rattle.std.specs.List.{Contains}
use Rattle.std.specs.List.Sorted.{IsStrictlyIncreasing}
use Rattle.std.proofs.lemmas.Bool.{cases_lt}
use Rattle.std.proofs.lemmas.List.{get_or_default}
use Rattle.isis_base.specs.declared.prefix.Prefix.{Prefix}
use Rattle.isis_base.proofs.PrefixValues.{prefix-same}
use Rattle.spf_tree.proofs.SearchLemmas.{contains_first, contains_rest, contains_cases, contains_none}
use Rattle.route_table.specs.declared.rank.Rank.{Rank}
use Rattle.route_table.specs.declared.rank.Rank.TheVariants.{Own, One, Two, OneDown, Default}
use Rattle.route_table.specs.declared.candidate.Candidate.{Candidate}
use Rattle.route_table.specs.declared.route.Route.{Route}
use Rattle.route_table.specs.Ranks.{rank_number, prefix_number}
use Rattle.route_table.specs.Routes.{IsNoWorse, IsRoute, AreRising, AreRoutes}
use Rattle.route_table.specs.Lookups.{IsLongest}
use Rattle.route_table.proofs.LookupLemmas.{begin_is}

-- ---- lists that rise by a number have one order

abbrev pub Rises : {X : Type 0} → (X → ℕ) → List X → Type 0
Rises f [] = Unit {0}
Rises f (x ∷ xs) = ((y : _) → Contains xs y → f x < f y) × Rises f xs

rises_by : {X : Type 0} (f : X → ℕ) (xs : List X) → ((i j : ℕ) (d : X) → i < j → j < length xs → f (get_or xs i d) < f (get_or xs j d)) → Rises f xs
rises_by f [] below = tt
rises_by f (x ∷ xs) below = (
  (λ y h. let l = h.1 in subst (λ (z : _). f x < f z) h.2 (below 0 (suc h.0) y (omega arith) (omega arith))),
  rises_by f xs (λ i j d less l. below (suc i) (suc j) d (omega arith) (omega arith)),
)

tail_in : {X : Type 0} (f : X → ℕ) (x : X) (xs ys : List X) → Rises f (x ∷ xs) → ((z : X) → Contains (x ∷ xs) z → Contains (x ∷ ys) z) → (z : X) → Contains xs z → Contains ys z
tail_in f x xs ys up into z h =
    elim (contains_cases x z ys (into z (contains_rest x z xs h))) [
      | inl is ↦ let less = up.0 z h in let same : f x ≡ f z = ap f is in absurd (omega arith)
      | inr there ↦ there
    ]

head_is : {X : Type 0} (f : X → ℕ) (x y : X) (xs ys : List X) → Rises f (x ∷ xs) → Rises f (y ∷ ys) → Contains (y ∷ ys) x → Contains (x ∷ xs) y → x ≡ y
head_is f x y xs ys up_x up_y of_x of_y =
    elim (contains_cases y x ys of_x) [
      | inl is ↦ sym is
      | inr in_ys ↦
          elim (contains_cases x y xs of_y) [
            | inl is ↦ is
            | inr in_xs ↦ let a = up_y.0 x in_ys in let b = up_x.0 y in_xs in absurd (omega arith)
          ]
    ]

pub one_list : {X : Type 0} (f : X → ℕ) (xs ys : List X) → Rises f xs → Rises f ys → ((z : X) → Contains xs z → Contains ys z) → ((z : X) → Contains ys z → Contains xs z) → xs ≡ ys
one_list f [] [] up_x up_y into out = refl
one_list f [] (y ∷ ys) up_x up_y into out = absurd (contains_none y (out y (contains_first y ys)))
one_list f (x ∷ xs) [] up_x up_y into out = absurd (contains_none x (into x (contains_first x xs)))
one_list f (x ∷ xs) (y ∷ ys) up_x up_y into out =
    let first : x ≡ y = head_is f x y xs ys up_x up_y (into x (contains_first x xs)) (out y (contains_first y ys)) in
    let up : Rises f (x ∷ ys) = subst (λ (z : _). Rises f (z ∷ ys)) (sym first) up_y in
    let into_x : (z : _) → Contains (x ∷ xs) z → Contains (x ∷ ys) z = λ z h. subst (λ (w : _). Contains (w ∷ ys) z) (sym first) (into z h) in
    let out_x : (z : _) → Contains (x ∷ ys) z → Contains (x ∷ xs) z = λ z h. out z (subst (λ (w : _). Contains (w ∷ ys) z) first h) in
    let rest : xs ≡ ys = one_list f xs ys up_x.1 up.1 (tail_in f x xs ys up_x into_x) (tail_in f x ys xs up out_x) in
    ap (λ (zs : List _). x ∷ zs) rest ∙ ap (λ (z : _). z ∷ ys) first

-- ---- numbers that rise

far_up : (xs : List ℕ) (d : ℕ) → IsStrictlyIncreasing xs → (i n : ℕ) → i + n + 1 < length xs → get_or xs i d < get_or xs (i + n + 1) d
far_up xs d up i zero l =
    let e : i + 1 ≡ i + zero + 1 = omega arith in
    let a : get_or xs i 0 ≡ get_or xs i d = get_or_default xs i 0 d (omega arith) in
    let b : get_or xs (i + 1) 0 ≡ get_or xs (i + 1) d = get_or_default xs (i + 1) 0 d (omega arith) in
    let step = up i (omega arith) in
    subst (λ (m : ℕ). get_or xs i d < get_or xs m d) e (omega arith)
far_up xs d up i (suc n) l =
    let e : i + n + 1 + 1 ≡ i + suc n + 1 = omega arith in
    let a : get_or xs (i + n + 1) 0 ≡ get_or xs (i + n + 1) d = get_or_default xs (i + n + 1) 0 d (omega arith) in
    let b : get_or xs (i + n + 1 + 1) 0 ≡ get_or xs (i + n + 1 + 1) d = get_or_default xs (i + n + 1 + 1) 0 d (omega arith) in
    let step = up (i + n + 1) (omega arith) in
    let before = far_up xs d up i n (omega arith) in
    subst (λ (m : ℕ). get_or xs i d < get_or xs m d) e (omega arith)

numbers_rise : (xs : List ℕ) → IsStrictlyIncreasing xs → Rises (λ (n : ℕ). n) xs
numbers_rise xs up =
    rises_by (λ (n : ℕ). n) xs (λ i j d less l.
    let e : i + (j - (i + 1)) + 1 ≡ j = omega arith in
    subst (λ (m : ℕ). get_or xs i d < get_or xs m d) e (far_up xs d up i (j - (i + 1)) (omega arith)))

-- ---- ranks, prefixes, routes

abbrev pub rank_at : ℕ → Rank
rank_at zero = Own
rank_at (suc zero) = One
rank_at (suc (suc zero)) = Two
rank_at (suc (suc (suc zero))) = OneDown
rank_at (suc (suc (suc (suc n)))) = Default

rank_is : (a : Rank) → rank_at (rank_number a) ≡ a
rank_is Own = refl
rank_is One = refl
rank_is Two = refl
rank_is OneDown = refl
rank_is Default = refl

one_rank : (a b : Rank) → rank_number a ≡ rank_number b → a ≡ b
one_rank a b e = sym (rank_is a) ∙ ap rank_at e ∙ rank_is b

one_prefix : (a b : Prefix) → prefix_number a ≡ prefix_number b → a ≡ b
one_prefix a b e =
    let of_a : a.length ≤ 32 = a.fits in
    let of_b : b.length ≤ 32 = b.fits in
    prefix-same a b (omega arith) (omega arith)

both_worse : (a b c d : ℕ) → IsNoWorse a b c d → IsNoWorse c d a b → (a ≡ c) × (b ≡ d)
both_worse a b c d (inl p) (inl q) = absurd (omega arith)
both_worse a b c d (inl p) (inr q) = let e = q.0 in absurd (omega arith)
both_worse a b c d (inr p) (inl q) = let e = p.0 in absurd (omega arith)
both_worse a b c d (inr p) (inr q) = let x = p.1 in let y = q.1 in (p.0, omega arith)

no_worse_than : (HopTo : Candidate → ℕ → Type 0) (cs : List Candidate) (r s : Route) → IsRoute HopTo cs r → IsRoute HopTo cs s → prefix_number s.prefix ≡ prefix_number r.prefix → IsNoWorse (rank_number r.rank) r.cost (rank_number s.rank) s.cost
no_worse_than HopTo cs r s of_r of_s e =
    let t = of_s.some in
    let like = t.2 in
    subst (λ (n : ℕ). IsNoWorse (rank_number r.rank) r.cost (rank_number s.rank) n) like.2
    (subst (λ (n : ℕ). IsNoWorse (rank_number r.rank) r.cost n t.0.cost) like.1 (of_r.best t.0 t.1 (like.0 ∙ e)))

made_of : (p q : Prefix) (a b : Rank) (c d : ℕ) (hs js : List ℕ) → p ≡ q → a ≡ b → c ≡ d → hs ≡ js → ◌≡◌ {A = Route} (record { prefix = p; rank = a; cost = c; hops = hs }) (record { prefix = q; rank = b; cost = d; hops = js })
made_of p q a b c d hs js of_p of_a of_c of_h = cc

hops_in : (HopTo : Candidate → ℕ → Type 0) (cs : List Candidate) (r s : Route) → IsRoute HopTo cs r → IsRoute HopTo cs s → prefix_number r.prefix ≡ prefix_number s.prefix → rank_number r.rank ≡ rank_number s.rank → r.cost ≡ s.cost → (hop : ℕ) → Contains r.hops hop → Contains s.hops hop
hops_in HopTo cs r s of_r of_s p q c hop h =
    let t = (of_r.hops hop).0 h in
    let like = t.2 in
    (of_s.hops hop).1 (t.0, t.1, (like.0 ∙ p, like.1 ∙ q, like.2 ∙ c), t.3)

one_route : (HopTo : Candidate → ℕ → Type 0) (cs : List Candidate) (r s : Route) → IsRoute HopTo cs r → IsRoute HopTo cs s → prefix_number r.prefix ≡ prefix_number s.prefix → r ≡ s
one_route HopTo cs r s of_r of_s e =
    let same = both_worse (rank_number r.rank) r.cost (rank_number s.rank) s.cost (no_worse_than HopTo cs r s of_r of_s (sym e)) (no_worse_than HopTo cs s r of_s of_r e) in
    made_of r.prefix s.prefix r.rank s.rank r.cost s.cost r.hops s.hops (one_prefix r.prefix s.prefix e) (one_rank r.rank s.rank same.0) same.1
    (one_list (λ (n : ℕ). n) r.hops s.hops (numbers_rise r.hops of_r.rising) (numbers_rise s.hops of_s.rising) (hops_in HopTo cs r s of_r of_s e same.0 same.1) (hops_in HopTo cs s r of_s of_r (sym e) (sym same.0) (sym same.1)))

abbrev pub route_number : Route → ℕ
route_number r = prefix_number r.prefix

routes_in : (HopTo : Candidate → ℕ → Type 0) (cs : List Candidate) (a b : List Route) → AreRoutes HopTo cs a → AreRoutes HopTo cs b → (r : Route) → Contains a r → Contains b r
routes_in HopTo cs a b of_a of_b r h =
    let of_r = of_a.each r h in
    let t = of_r.some in
    let s = of_b.all t.0 t.1 in
    let like = t.2 in
    let is : s.0 ≡ r = one_route HopTo cs s.0 r (of_b.each s.0 s.1) of_r (s.2 ∙ like.0) in
    subst (λ (x : Route). Contains b x) is s.1

pub one_table : (HopTo : Candidate → ℕ → Type 0) (cs : List Candidate) (a b : List Route) → AreRoutes HopTo cs a → AreRoutes HopTo cs b → a ≡ b
one_table HopTo cs a b of_a of_b = one_list route_number a b (rises_by route_number a of_a.rising.below) (rises_by route_number b of_b.rising.below) (routes_in HopTo cs a b of_a of_b) (routes_in HopTo cs b a of_b of_a)

-- ---- the longest prefix of an address

same_at : (routes : List Route) (i j : ℕ) (d e : Route) → AreRising routes → i < length routes → j < length routes → route_number (get_or routes i d) ≡ route_number (get_or routes j e) → get_or routes i d ≡ get_or routes j e
same_at routes i j d e rising l m same =
    let default : get_or routes j d ≡ get_or routes j e = get_or_default routes j d e m in
    let number : route_number (get_or routes j d) ≡ route_number (get_or routes j e) = ap route_number default in
    elim (cases_lt i j) [
      | inl less ↦ let up = rising.below i j d less m in absurd (omega arith)
      | inr not_less ↦
          elim (cases_lt j i) [
            | inl more ↦ let up = rising.below j i d more l in absurd (omega arith)
            | inr not_more ↦ let is : i ≡ j = omega arith in ap (λ (n : ℕ). get_or routes n d) is ∙ default
          ]
    ]

pub one_longest : (routes : List Route) (address : ℕ) (a b : Route) → AreRising routes → IsLongest routes address a → IsLongest routes address b → a ≡ b
one_longest routes address a b rising of_a of_b =
    let up = of_a.longest b of_b.listed of_b.has in
    let down = of_b.longest a of_a.listed of_a.has in
    let length : a.prefix.length ≡ b.prefix.length = omega arith in
    let at_a = begin_is a.prefix address of_a.has in
    let at_b = begin_is b.prefix address of_b.has in
    let move : 2 ^ (32 - a.prefix.length) * (address / 2 ^ (32 - a.prefix.length)) ≡ 2 ^ (32 - b.prefix.length) * (address / 2 ^ (32 - b.prefix.length)) = ap (λ (n : ℕ). 2 ^ (32 - n) * (address / 2 ^ (32 - n))) length in
    let address_is : a.prefix.address ≡ b.prefix.address = omega arith in
    let number : route_number a ≡ route_number b = omega arith in
    let x = of_a.listed in
    let y = of_b.listed in
    let there : route_number (get_or routes x.0 a) ≡ route_number (get_or routes y.0 b) = ap route_number x.2 ∙ number ∙ ap route_number (sym y.2) in
    sym x.2 ∙ same_at routes x.0 y.0 a b rising x.1 y.1 there ∙ y.2
