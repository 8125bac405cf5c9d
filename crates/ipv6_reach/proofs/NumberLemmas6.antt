-- Routes of candidates that stand for others are those of the others.

use Rattle.std.proofs.Common.{◌≡◌, ◌∙◌, ℕ, zero, suc, ◌+◌, ◌-◌, ◌≤◌, ◌<◌, false, List, [], ◌∷◌, ◌++◌, length, get_or, take, append-nil, refl, sym, ap, subst, arith, inl, inr}
use Rattle.std.specs.Ordering.{nat_cmp, ordering_then, is_lt}
use Rattle.std.specs.List.{Contains}
use Rattle.std.specs.List.Sorted.{IsSortedByKey, IsStrictlyIncreasing}
use Rattle.std.proofs.lemmas.Bool.{cases_lt}
use Rattle.std.proofs.lemmas.Bool.Decides.{nat_tests}
use Rattle.std.proofs.lemmas.List.{get_or_default, get_or_append_left, get_or_push, length-append, take_more}
use Rattle.std.proofs.lemmas.List.Elements.{Contains-get_or}
use Rattle.spf_tree.specs.Graphs.{GraphOf}
use Rattle.spf_tree.specs.Nodes.{node_number}
use Rattle.spf_tree.proofs.SearchLemmas.{contains_first, contains_rest, contains_cases, contains_none}
use Rattle.route_table.specs.declared.rank.Rank.{Rank}
use Rattle.route_table.specs.declared.rank.Rank.TheVariants as rank
use Rattle.route_table.specs.declared.candidate.Candidate.{Candidate}
use Rattle.route_table.specs.declared.route.Route.{Route}
use Rattle.route_table.specs.Ranks.{rank_number}
use Rattle.route_table.specs.Routes.{IsHopBy, IsHopTo, IsLike, IsNoWorse, IsRoute, AreRoutes}
use Rattle.ipv6_reach.specs.declared.prefix6.Prefix6.{Prefix6}
use Rattle.ipv6_reach.specs.declared.rank6.Rank6.{Rank6}
use Rattle.ipv6_reach.specs.declared.rank6.Rank6.TheVariants.{Own, Up, Down}
use Rattle.ipv6_reach.specs.declared.candidate6.Candidate6.{Candidate6}
use Rattle.ipv6_reach.specs.declared.route6.Route6.{Route6}
use Rattle.ipv6_reach.specs.Routes6.{rank6_number, prefix6_number, IsHopBy6, IsHopTo6, IsLike6, IsRoute6, AreRoutes6}
use Rattle.ipv6_reach.specs.Numbered.{AreNames, AreInOrder6, AreUpTo, IsAt, IsLast, IsGrown, IsNumbered, AreNumbered, rank_for, IsStand, HasName, IsNamed, AreNamed}

-- ---- candidates in order

abbrev pub candidate6_key : Candidate6 → ℕ × ℕ
candidate6_key c = (c.prefix.address, c.prefix.length)

falls_first : (a b c d : ℕ) → is_lt (ordering_then (nat_cmp a c) (nat_cmp b d)) ≡ false → a < c → ⊥
falls_first a b c d h less = grind (arith, nat_tests)

falls_second : (a b c d : ℕ) → is_lt (ordering_then (nat_cmp a c) (nat_cmp b d)) ≡ false → a ≡ c → b < d → ⊥
falls_second a b c d h p less = grind (arith, nat_tests)

no_later6 : (x y : Candidate6) → is_lt (ordering_then (nat_cmp y.prefix.address x.prefix.address) (nat_cmp y.prefix.length x.prefix.length)) ≡ false → prefix6_number x.prefix ≤ prefix6_number y.prefix
no_later6 x y h =
    let fits_x = x.prefix.fits in
    let fits_y = y.prefix.fits in
    let a = y.prefix.address in
    let c = x.prefix.address in
    elim (cases_lt c a) [
      | inl less ↦ omega arith
      | inr not_less ↦
          elim (cases_lt a c) [
            | inl more ↦ absurd (falls_first a y.prefix.length c x.prefix.length h more)
            | inr not_more ↦
                let p : a ≡ c = omega arith in
                elim (cases_lt y.prefix.length x.prefix.length) [
                  | inl shorter ↦ absurd (falls_second a y.prefix.length c x.prefix.length h p shorter)
                  | inr not_shorter ↦ omega arith
                ]
          ]
    ]

far6 : (cs : List Candidate6) (d : Candidate6) → ((k : ℕ) → k + 1 < length cs → prefix6_number (get_or cs k d).prefix ≤ prefix6_number (get_or cs (k + 1) d).prefix) → (i n : ℕ) → i + n + 1 < length cs → prefix6_number (get_or cs i d).prefix ≤ prefix6_number (get_or cs (i + n + 1) d).prefix
far6 cs d step i zero l =
    let e : i + 1 ≡ i + zero + 1 = omega arith in
    subst (λ (m : ℕ). prefix6_number (get_or cs i d).prefix ≤ prefix6_number (get_or cs m d).prefix) e (step i (omega arith))
far6 cs d step i (suc n) l =
    let last = step (i + n + 1) (omega arith) in
    let before = far6 cs d step i n (omega arith) in
    let e : i + n + 1 + 1 ≡ i + suc n + 1 = omega arith in
    subst (λ (m : ℕ). prefix6_number (get_or cs i d).prefix ≤ prefix6_number (get_or cs m d).prefix) e (omega arith)

pub order6_is : (cs : List Candidate6) → IsSortedByKey candidate6_key (λ x y. ordering_then (nat_cmp x.0 y.0) (nat_cmp x.1 y.1)) cs → AreInOrder6 cs
order6_is cs sorted = record {
  order = λ i j d less l.
      let e : i + (j - (i + 1)) + 1 ≡ j = omega arith in
      subst (λ (m : ℕ). prefix6_number (get_or cs i d).prefix ≤ prefix6_number (get_or cs m d).prefix) e
      (far6 cs d (λ k in'. no_later6 (get_or cs k d) (get_or cs (k + 1) d) (sorted k d (omega arith) in')) i (j - (i + 1)) (omega arith));
}

-- ---- stands and what they stand for, one for one

numbered_into : (names : List Prefix6) (cs : List Candidate6) (ss : List Candidate) → AreNumbered names cs ss → (c : Candidate6) → Contains cs c → (s : Candidate) × Contains ss s × IsNumbered names c s
numbered_into names [] ss are c there = absurd (contains_none c there)
numbered_into names (x ∷ cs) [] are c there = absurd are
numbered_into names (x ∷ cs) (s ∷ ss) are c there =
    elim (contains_cases x c cs there) [
      | inl is ↦ (s, contains_first s ss, subst (λ (y : Candidate6). IsNumbered names y s) is are.0)
      | inr more ↦ let o = numbered_into names cs ss are.1 c more in (o.0, contains_rest s o.0 ss o.1, o.2)
    ]

numbered_from : (names : List Prefix6) (cs : List Candidate6) (ss : List Candidate) → AreNumbered names cs ss → (s : Candidate) → Contains ss s → (c : Candidate6) × Contains cs c × IsNumbered names c s
numbered_from names cs [] are s there = absurd (contains_none s there)
numbered_from names [] (x ∷ ss) are s there = absurd are
numbered_from names (c ∷ cs) (x ∷ ss) are s there =
    elim (contains_cases x s ss there) [
      | inl is ↦ (c, contains_first c cs, subst (λ (y : Candidate). IsNumbered names c y) is are.0)
      | inr more ↦ let o = numbered_from names cs ss are.1 s more in (o.0, contains_rest c o.0 cs o.1, o.2)
    ]

named_into : (names : List Prefix6) (rs : List Route) (ns : List Route6) → AreNamed names rs ns → (n : Route6) → Contains ns n → (r : Route) × Contains rs r × IsNamed names r n
named_into names rs [] are n there = absurd (contains_none n there)
named_into names [] (x ∷ ns) are n there = absurd are
named_into names (r ∷ rs) (x ∷ ns) are n there =
    elim (contains_cases x n ns there) [
      | inl is ↦ (r, contains_first r rs, subst (λ (y : Route6). IsNamed names r y) is are.0)
      | inr more ↦ let o = named_into names rs ns are.1 n more in (o.0, contains_rest r o.0 rs o.1, o.2)
    ]

named_from : (names : List Prefix6) (rs : List Route) (ns : List Route6) → AreNamed names rs ns → (r : Route) → Contains rs r → (n : Route6) × Contains ns n × IsNamed names r n
named_from names [] ns are r there = absurd (contains_none r there)
named_from names (x ∷ rs) [] are r there = absurd are
named_from names (x ∷ rs) (n ∷ ns) are r there =
    elim (contains_cases x r rs there) [
      | inl is ↦ (n, contains_first n ns, subst (λ (y : Route). IsNamed names y n) is are.0)
      | inr more ↦ let o = named_from names rs ns are.1 r more in (o.0, contains_rest n o.0 ns o.1, o.2)
    ]

named_at : (names : List Prefix6) (rs : List Route) (ns : List Route6) (d : Route) (e : Route6) → AreNamed names rs ns → (i : ℕ) → i < length ns → (i < length rs) × IsNamed names (get_or rs i d) (get_or ns i e)
named_at names rs [] d e are i in' = absurd (omega arith)
named_at names [] (n ∷ ns) d e are i in' = absurd are
named_at names (r ∷ rs) (n ∷ ns) d e are zero in' = (omega arith, are.0)
named_at names (r ∷ rs) (n ∷ ns) d e are (suc i) in' = let o = named_at names rs ns d e are.1 i (omega arith) in let l = o.0 in (omega arith, o.1)

-- ---- one more

pub take_one : {X : Type 0} (xs : List X) (i : ℕ) (x : X) → i < length xs → x ≡ get_or xs i x → take (i + 1) xs ≡ take i xs ++ x ∷ []
take_one {X} xs i x in' is = subst (λ (y : X). take (i + 1) xs ≡ take i xs ++ y ∷ []) (sym is) (take_more xs i x in')

grow_at : (names more : List Prefix6) (place : ℕ) (prefix : Prefix6) → IsAt names place prefix → IsAt (names ++ more) place prefix
grow_at names more place prefix at = record {
  within = let l = at.within in omega (arith, length-append names more);
  is = λ d. subst (λ (p : Prefix6). prefix6_number p ≡ prefix6_number prefix) (sym (get_or_append_left names more d place at.within)) (at.is d);
}

grow : (names new : List Prefix6) (c : Candidate6) (s : Candidate) → IsGrown names new → IsNumbered names c s → IsNumbered new c s
grow names new c s grown is = record {
  prefix = record {
    at = subst (λ (l : List Prefix6). IsAt l s.prefix.address c.prefix) (sym grown.1) (grow_at names grown.0 s.prefix.address c.prefix is.prefix.at);
    long = is.prefix.long;
  };
  rank = is.rank;
  cost = is.cost;
  origin = is.origin;
}

pub numbered_more : (names new : List Prefix6) (cs : List Candidate6) (ss : List Candidate) (c : Candidate6) (s : Candidate) → IsGrown names new → AreNumbered names cs ss → IsNumbered new c s → AreNumbered new (cs ++ c ∷ []) (ss ++ s ∷ [])
numbered_more names new [] [] c s grown are is = (is, tt)
numbered_more names new [] (t ∷ ss) c s grown are is = absurd are
numbered_more names new (x ∷ cs) [] c s grown are is = absurd are
numbered_more names new (x ∷ cs) (t ∷ ss) c s grown are is = (grow names new x t grown are.0, numbered_more names new cs ss c s grown are.1 is)

pub up_to_more : (names : List Prefix6) (p q : Prefix6) → AreUpTo names p → prefix6_number p ≤ prefix6_number q → AreUpTo names q
up_to_more names p q are le = record { each = λ i d in'. let before = are.each i d in' in omega arith }

pub numbered_as : (names : List Prefix6) (c : Candidate6) (s : Candidate) (place : ℕ) → IsAt names place c.prefix → s.prefix.address ≡ place → s.prefix.length ≡ 32 → s.rank ≡ rank_for c.rank → s.cost ≡ c.cost → s.origin ≡ c.origin → IsNumbered names c s
numbered_as names c s place at is long rank cost origin = record {
  prefix = record { at = subst (λ (k : ℕ). IsAt names k c.prefix) (sym is) at; long = long };
  rank = rank;
  cost = cost;
  origin = origin;
}

pub stands_more : (names new : List Prefix6) (cs : List Candidate6) (k : ℕ) (ss : List Candidate) (c : Candidate6) (s : Candidate) → k < length cs → c ≡ get_or cs k c → IsGrown names new → AreNumbered names (take k cs) ss → IsNumbered new c s → AreNumbered new (take (k + 1) cs) (ss ++ s ∷ [])
stands_more names new cs k ss c s in' is grown are numbered =
    subst (λ (l : List Candidate6). AreNumbered new l (ss ++ s ∷ [])) (sym (take_one cs k c in' is)) (numbered_more names new (take k cs) ss c s grown are numbered)

pub up_to_all : (names : List Prefix6) (cs : List Candidate6) (k : ℕ) (c : Candidate6) → AreInOrder6 cs → k < length cs → c ≡ get_or cs k c → AreUpTo names c.prefix → (j : ℕ) (d : Candidate6) → k + 1 ≤ j → j < length cs → AreUpTo names (get_or cs j d).prefix
up_to_all names cs k c sorted in' is up_to j d after within =
    let at : get_or cs k d ≡ c = get_or_default cs k d c in' ∙ sym is in
    let le = sorted.order k j d (omega arith) within in
    up_to_more names c.prefix (get_or cs j d).prefix up_to (subst (λ (x : Candidate6). prefix6_number x.prefix ≤ prefix6_number (get_or cs j d).prefix) at le)

pub named_more : (names : List Prefix6) (rs : List Route) (ns : List Route6) (r : Route) (n : Route6) → AreNamed names rs ns → IsNamed names r n → AreNamed names (rs ++ r ∷ []) (ns ++ n ∷ [])
named_more names [] [] r n are is = (is, tt)
named_more names [] (m ∷ ns) r n are is = absurd are
named_more names (q ∷ rs) [] r n are is = absurd are
named_more names (q ∷ rs) (m ∷ ns) r n are is = (are.0, named_more names rs ns r n are.1 is)

-- ---- a prefix at the end

pub last_at : (names : List Prefix6) (p : Prefix6) → IsLast names p → IsAt names (length names - 1) p
last_at names p last = let some = last.some in record { within = omega arith; is = last.is }

pub grown_none : (names : List Prefix6) → IsGrown names names
grown_none names = ([], sym (append-nil names))

pub push_at : (names : List Prefix6) (p : Prefix6) → IsAt (names ++ p ∷ []) (length names) p
push_at names p = record {
  within = omega (arith, length-append names (p ∷ []));
  is = λ d. ap prefix6_number (get_or_push names p d (length names) refl);
}

-- a prefix of the list with one more is an old one or the new one
push_cases : (names : List Prefix6) (p : Prefix6) (i : ℕ) (d : Prefix6) (P : Prefix6 → Type 0) → i < length (names ++ p ∷ []) → (i < length names → P (get_or names i d)) → (i ≡ length names → P p) → P (get_or (names ++ p ∷ []) i d)
push_cases names p i d P in' old new =
    elim (cases_lt i (length names)) [
      | inl before ↦ subst P (sym (get_or_append_left names (p ∷ []) d i before)) (old before)
      | inr not_before ↦
          let at : i ≡ length names = omega (arith, in', length-append names (p ∷ [])) in
          subst P (sym (ap (λ (k : ℕ). get_or (names ++ p ∷ []) k d) at ∙ get_or_push names p d (length names) refl)) (new at)
    ]

pub push_up_to : (names : List Prefix6) (p : Prefix6) → AreUpTo names p → AreUpTo (names ++ p ∷ []) p
push_up_to names p are = record {
  each = λ i d in'. push_cases names p i d (λ q. prefix6_number q ≤ prefix6_number p) in' (λ before. are.each i d before) (λ at. omega arith);
}

-- what isn't the last one comes behind all
above_all : (names : List Prefix6) (p : Prefix6) → AreNames names → AreUpTo names p → (IsLast names p → ⊥) → (i : ℕ) (d : Prefix6) → i < length names → prefix6_number (get_or names i d) < prefix6_number p
above_all names p are up_to other i d in' =
    let last = length names - 1 in
    let le = up_to.each last d (omega arith) in
    elim (cases_lt (prefix6_number (get_or names last d)) (prefix6_number p)) [
      | inl below ↦
          elim (cases_lt i last) [
            | inl before ↦ let less = are.below i last d before (omega arith) in omega arith
            | inr not_before ↦
                let at : i ≡ last = omega arith in
                subst (λ (k : ℕ). prefix6_number (get_or names k d) < prefix6_number p) (sym at) below
          ]
      | inr not_below ↦
          absurd (other (record {
            some = omega arith;
            is = λ e. subst (λ (q : Prefix6). prefix6_number q ≡ prefix6_number p) (get_or_default names last d e (omega arith)) (omega arith);
          }))
    ]

pub push_names : (names : List Prefix6) (p : Prefix6) → AreNames names → AreUpTo names p → (IsLast names p → ⊥) → AreNames (names ++ p ∷ [])
push_names names p are up_to other = record {
  below = λ i j d less in'.
      let before : i < length names = omega (arith, length-append names (p ∷ [])) in
      subst (λ (q : Prefix6). prefix6_number q < prefix6_number (get_or (names ++ p ∷ []) j d)) (sym (get_or_append_left names (p ∷ []) d i before))
      (push_cases names p j d (λ q. prefix6_number (get_or names i d) < prefix6_number q) in' (λ also. are.below i j d less also) (λ at. above_all names p are up_to other i d before));
}

-- ---- places

same_place : (names : List Prefix6) (a b : ℕ) (p q : Prefix6) → AreNames names → IsAt names a p → IsAt names b q → prefix6_number p ≡ prefix6_number q → a ≡ b
same_place names a b p q are at_a at_b same =
    let is_a = at_a.is p in
    let is_b = at_b.is p in
    elim (cases_lt a b) [
      | inl less ↦ let below = are.below a b p less at_b.within in absurd (omega arith)
      | inr not_less ↦
          elim (cases_lt b a) [
            | inl more ↦ let below = are.below b a p more at_a.within in absurd (omega arith)
            | inr not_more ↦ omega arith
          ]
    ]

rank_same : (a b : Rank6) → rank_number (rank_for a) ≡ rank_number (rank_for b) → rank6_number a ≡ rank6_number b
rank_same Own Own h = refl
rank_same Own Up h = absurd (omega arith)
rank_same Own Down h = absurd (omega arith)
rank_same Up Own h = absurd (omega arith)
rank_same Up Up h = refl
rank_same Up Down h = absurd (omega arith)
rank_same Down Own h = absurd (omega arith)
rank_same Down Up h = absurd (omega arith)
rank_same Down Down h = refl

rank_back : (a b : Rank6) → rank6_number a ≡ rank6_number b → rank_number (rank_for a) ≡ rank_number (rank_for b)
rank_back Own Own h = refl
rank_back Own Up h = absurd (omega arith)
rank_back Own Down h = absurd (omega arith)
rank_back Up Own h = absurd (omega arith)
rank_back Up Up h = refl
rank_back Up Down h = absurd (omega arith)
rank_back Down Own h = absurd (omega arith)
rank_back Down Up h = absurd (omega arith)
rank_back Down Down h = refl

rank_less : (a b : Rank6) → rank_number (rank_for a) < rank_number (rank_for b) → rank6_number a < rank6_number b
rank_less Own Own h = absurd (omega arith)
rank_less Own Up h = omega arith
rank_less Own Down h = omega arith
rank_less Up Own h = absurd (omega arith)
rank_less Up Up h = absurd (omega arith)
rank_less Up Down h = omega arith
rank_less Down Own h = absurd (omega arith)
rank_less Down Up h = absurd (omega arith)
rank_less Down Down h = absurd (omega arith)

no_worse : (a b : Rank6) (x y : ℕ) → IsNoWorse (rank_number (rank_for a)) x (rank_number (rank_for b)) y → IsNoWorse (rank6_number a) x (rank6_number b) y
no_worse a b x y (inl less) = inl (rank_less a b less)
no_worse a b x y (inr same) = inr (rank_same a b same.0, same.1)

hop_into : (graph none : GraphOf) (rank : Rank6) (origin hop : ℕ) → IsHopBy graph none (rank_for rank) origin hop → IsHopBy6 graph rank origin hop
hop_into graph none Own origin hop h = h
hop_into graph none Up origin hop h = h
hop_into graph none Down origin hop h = h

hop_from : (graph none : GraphOf) (rank : Rank6) (origin hop : ℕ) → IsHopBy6 graph rank origin hop → IsHopBy graph none (rank_for rank) origin hop
hop_from graph none Own origin hop h = h
hop_from graph none Up origin hop h = h
hop_from graph none Down origin hop h = h

-- ---- likeness

like_into : (names : List Prefix6) (c : Candidate6) (s : Candidate) (r : Route) (n : Route6) → IsNumbered names c s → IsNamed names r n → IsLike r s → IsLike6 n c
like_into names c s r n is named like =
    let e = like.0 in
    let long_s = is.prefix.long in
    let long_r = named.prefix.long in
    let place : s.prefix.address ≡ r.prefix.address = omega arith in
    let at_s = is.prefix.at.is c.prefix in
    let at_r = named.prefix.at.is c.prefix in
    let at : prefix6_number (get_or names s.prefix.address c.prefix) ≡ prefix6_number (get_or names r.prefix.address c.prefix) = ap (λ (k : ℕ). prefix6_number (get_or names k c.prefix)) place in (
      sym at_s ∙ at ∙ at_r,
      rank_same c.rank n.rank (sym (ap rank_number is.rank) ∙ like.1 ∙ ap rank_number named.rank),
      sym is.cost ∙ like.2 ∙ sym named.cost,
    )

like_from : (names : List Prefix6) (c : Candidate6) (s : Candidate) (r : Route) (n : Route6) → AreNames names → IsNumbered names c s → IsNamed names r n → IsLike6 n c → IsLike r s
like_from names c s r n are is named like =
    let long_s = is.prefix.long in
    let long_r = named.prefix.long in
    let place : s.prefix.address ≡ r.prefix.address = same_place names s.prefix.address r.prefix.address c.prefix n.prefix are is.prefix.at named.prefix.at like.0 in (
      omega arith,
      ap rank_number is.rank ∙ rank_back c.rank n.rank like.1 ∙ sym (ap rank_number named.rank),
      is.cost ∙ like.2 ∙ named.cost,
    )

-- ---- the routes

abbrev pub HasHop : GraphOf → List Candidate6 → Route6 → ℕ → Type 0
HasHop graph cs n hop = (c : Candidate6) × Contains cs c × IsLike6 n c × IsHopTo6 graph c hop

hops_into : (graph none : GraphOf) (names : List Prefix6) (cs : List Candidate6) (ss : List Candidate) (r : Route) (n : Route6) → AreNumbered names cs ss → IsRoute (IsHopTo graph none) ss r → IsNamed names r n → (hop : ℕ) → Contains n.hops hop → HasHop graph cs n hop
hops_into graph none names cs ss r n are route named hop there =
    let h = (route.hops hop).0 (subst (λ (l : List ℕ). Contains l hop) named.hops there) in
    let o = numbered_from names cs ss are h.0 h.1 in
    let is = o.2 in
    let step = subst (λ k. IsHopBy graph none k (node_number h.0.origin) hop) is.rank h.3 in (
      o.0,
      o.1,
      like_into names o.0 h.0 r n is named h.2,
      hop_into graph none o.0.rank (node_number o.0.origin) hop (subst (λ k. IsHopBy graph none (rank_for o.0.rank) (node_number k) hop) is.origin step),
    )

hops_from : (graph none : GraphOf) (names : List Prefix6) (cs : List Candidate6) (ss : List Candidate) (r : Route) (n : Route6) → AreNames names → AreNumbered names cs ss → IsRoute (IsHopTo graph none) ss r → IsNamed names r n → (hop : ℕ) → HasHop graph cs n hop → Contains n.hops hop
hops_from graph none names cs ss r n names_are are route named hop has =
    let o = numbered_into names cs ss are has.0 has.1 in
    let is = o.2 in
    let step = hop_from graph none has.0.rank (node_number has.0.origin) hop has.3 in
    let by_origin = subst (λ k. IsHopBy graph none (rank_for has.0.rank) (node_number k) hop) (sym is.origin) step in
    let there = (route.hops hop).1 (o.0, o.1, like_from names has.0 o.0 r n names_are is named has.2, subst (λ k. IsHopBy graph none k (node_number o.0.origin) hop) (sym is.rank) by_origin) in
    subst (λ (l : List ℕ). Contains l hop) (sym named.hops) there

route_is : (graph none : GraphOf) (names : List Prefix6) (cs : List Candidate6) (ss : List Candidate) (r : Route) (n : Route6) → AreNames names → AreNumbered names cs ss → IsRoute (IsHopTo graph none) ss r → IsNamed names r n → IsRoute6 (IsHopTo6 graph) cs n
route_is graph none names cs ss r n names_are are route named = record {
  some =
      let o = numbered_from names cs ss are route.some.0 route.some.1 in
      (o.0, o.1, like_into names o.0 route.some.0 r n o.2 named route.some.2);
  best = λ c there same.
      let o = numbered_into names cs ss are c there in
      let is = o.2 in
      let long_s = is.prefix.long in
      let long_r = named.prefix.long in
      let place : o.0.prefix.address ≡ r.prefix.address = same_place names o.0.prefix.address r.prefix.address c.prefix n.prefix names_are is.prefix.at named.prefix.at same in
      let worse = route.best o.0 o.1 (omega arith) in
      let by_rank = subst (λ k. IsNoWorse (rank_number k) r.cost (rank_number o.0.rank) o.0.cost) named.rank worse in
      let by_ranks = subst (λ k. IsNoWorse (rank_number (rank_for n.rank)) r.cost (rank_number k) o.0.cost) is.rank by_rank in
      let by_cost = subst (λ k. IsNoWorse (rank_number (rank_for n.rank)) k (rank_number (rank_for c.rank)) o.0.cost) (sym named.cost) by_ranks in
      no_worse n.rank c.rank n.cost c.cost (subst (λ k. IsNoWorse (rank_number (rank_for n.rank)) n.cost (rank_number (rank_for c.rank)) k) is.cost by_cost);
  rising = subst (λ (l : List ℕ). IsStrictlyIncreasing l) (sym named.hops) route.rising;
  hops = λ hop. (hops_into graph none names cs ss r n are route named hop, hops_from graph none names cs ss r n names_are are route named hop);
}

pub routes_are : (graph none : GraphOf) (names : List Prefix6) (cs : List Candidate6) (ss : List Candidate) (rs : List Route) (ns : List Route6) → AreNames names → AreNumbered names cs ss → AreRoutes (IsHopTo graph none) ss rs → AreNamed names rs ns → AreRoutes6 (IsHopTo6 graph) cs ns
routes_are graph none names cs ss rs ns names_are are routes named = record {
  rising = λ i j e less in'.
      let d = (named_into names rs ns named (get_or ns i e) (Contains-get_or ns i e (omega arith))).0 in
      let a = named_at names rs ns d e named i (omega arith) in
      let b = named_at names rs ns d e named j in' in
      let long_a = a.1.prefix.long in
      let long_b = b.1.prefix.long in
      let below = routes.rising.below i j d less b.0 in
      let at_a = a.1.prefix.at.is (get_or ns i e).prefix in
      let at_b = b.1.prefix.at.is (get_or ns i e).prefix in
      let up = names_are.below (get_or rs i d).prefix.address (get_or rs j d).prefix.address (get_or ns i e).prefix (omega arith) b.1.prefix.at.within in
      omega arith;
  each = λ n there.
      let o = named_into names rs ns named n there in
      route_is graph none names cs ss o.0 n names_are are (routes.each o.0 o.1) o.2;
  all = λ c there.
      let o = numbered_into names cs ss are c there in
      let r = routes.all o.0 o.1 in
      let n = named_from names rs ns named r.0 r.1 in
      let same = r.2 in
      let long_s = o.2.prefix.long in
      let long_r = n.2.prefix.long in
      let place : r.0.prefix.address ≡ o.0.prefix.address = omega arith in
      let at_r = n.2.prefix.at.is c.prefix in
      let at_s = o.2.prefix.at.is c.prefix in
      (n.0, n.1, sym at_r ∙ ap (λ (k : ℕ). prefix6_number (get_or names k c.prefix)) place ∙ at_s);
}

-- a rank of the same number as one that stands for another
rank_is : (s r : Rank) (rank : Rank6) → s ≡ rank_for rank → rank_number s ≡ rank_number r → IsStand r
rank_is s rank.Own k is same = tt
rank_is s rank.One k is same = tt
rank_is s rank.OneDown k is same = tt
rank_is s rank.Two Own is same = let e = ap rank_number is in absurd (omega arith)
rank_is s rank.Two Up is same = let e = ap rank_number is in absurd (omega arith)
rank_is s rank.Two Down is same = let e = ap rank_number is in absurd (omega arith)
rank_is s rank.Default Own is same = let e = ap rank_number is in absurd (omega arith)
rank_is s rank.Default Up is same = let e = ap rank_number is in absurd (omega arith)
rank_is s rank.Default Down is same = let e = ap rank_number is in absurd (omega arith)

pub have_names : (graph none : GraphOf) (names : List Prefix6) (cs : List Candidate6) (ss : List Candidate) (rs : List Route) → AreNumbered names cs ss → AreRoutes (IsHopTo graph none) ss rs → (r : Route) → Contains rs r → HasName names r
have_names graph none names cs ss rs are routes r there =
    let some = (routes.each r there).some in
    let o = numbered_from names cs ss are some.0 some.1 in
    let same = some.2.0 in
    let long = o.2.prefix.long in
    let fits_r = r.prefix.fits in
    let within = o.2.prefix.at.within in
    record {
      within = omega arith;
      long = omega arith;
      rank = rank_is some.0.rank r.rank o.0.rank o.2.rank some.2.1;
    }

-- ---- other candidates with the same elements

pub same_candidates : (HopTo : Candidate6 → ℕ → Type 0) (given sorted : List Candidate6) (list : List Route6) → ((c : Candidate6) → Contains given c → Contains sorted c) → ((c : Candidate6) → Contains sorted c → Contains given c) → AreRoutes6 HopTo sorted list → AreRoutes6 HopTo given list
same_candidates HopTo given sorted list into from are = record {
  rising = are.rising;
  each = λ n there.
      let r = are.each n there in
      record {
        some = (r.some.0, from r.some.0 r.some.1, r.some.2);
        best = λ c in' same. r.best c (into c in') same;
        rising = r.rising;
        hops = λ hop. (
          (λ h. let o = (r.hops hop).0 h in (o.0, from o.0 o.1, o.2, o.3)),
          (λ o. (r.hops hop).1 (o.0, into o.0 o.1, o.2, o.3)),
        );
      };
  all = λ c in'. are.all c (into c in');
}
