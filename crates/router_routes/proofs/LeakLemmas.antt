-- What is leaked by the plain program is what the routes leak.
use Rattle.std.proofs.Common.{◌≡◌, ◌∙◌, ℕ, suc, ◌+◌, ◌*◌, ◌≤◌, ◌<◌, Bool, true, false, List, [], ◌∷◌, map, filter, Option, Some, None, refl, sym, ap, subst, arith, ◌⊎◌, inl, inr, ◌==◌, nat_lt, ◌||◌, ◌&&◌, zero-le}
use Rattle.std.specs.List.{Contains}
use Rattle.std.proofs.lemmas.Bool.{cases_eq, cases_lt, eq-eqb, ne_eqb}
use Rattle.std.proofs.lemmas.Bool.Decides.{nat_tests}
use Rattle.isis_base.specs.declared.level.Level.{Level}
use Rattle.isis_base.specs.declared.level.Level.TheVariants as level
use Rattle.isis_tlv.specs.declared.prefix.PrefixItem.{PrefixItem}
use Rattle.model_router.specs.Maps.{find}
use Rattle.model_router.specs.Sorted.{RisesFrom}
use Rattle.model_router.proofs.MapLemmas.{find-put}
use Rattle.model_router.proofs.RisingLemmas.{put-rises}
use Rattle.spf_tree.proofs.SearchLemmas.{contains_first, contains_rest, contains_cases, contains_none}
use Rattle.route_table.specs.declared.rank.Rank.{Rank}
use Rattle.route_table.specs.declared.rank.Rank.TheVariants as rank
use Rattle.route_table.specs.declared.candidate.Candidate.{Candidate}
use Rattle.route_table.specs.declared.route.Route.{Route}
use Rattle.route_table.specs.Ranks.{rank_number}
use Rattle.route_table.specs.Routes.{IsNoWorse, AreRising, AreRoutes}
use Rattle.route_leaking.specs.Leaks.{leaked_metric, leaked, has_rank, leaks}
use Rattle.router_routes.specs.Outlooks.{Outlook}
use Rattle.router_routes.specs.Candidates.{candidates_of, AreRoutesOf}
use Rattle.isis_base.specs.Prefixes.{prefix_number}
use Rattle.router_routes.specs.Leaks.{is_better, better, way_of, best_of, has_way, leaked_of, leaks_of, item_pair, pair_of, leaked_by}
use Rattle.router_routes.proofs.ToldLemmas.{filter-map, map-map}

abbrev Way : Type 0
Way = ℕ × ℕ

abbrev number : Candidate → ℕ
number c = prefix_number c.prefix

abbrev NoWorse : Way → Way → Type 0
NoWorse a b = IsNoWorse a.0 a.1 b.0 b.1

none-some : {A : Type 0} (x : A) → ◌≡◌ {A = Option A} None (Some x) → ⊥
none-some x e = cc

some-same : {A : Type 0} (x y : A) (o : Option A) → o ≡ Some x → o ≡ Some y → x ≡ y
some-same x y o p q = cc

some-or-none : {A : Type 0} (o : Option A) → (o ≡ None) ⊎ ((x : A) × (o ≡ Some x))
some-or-none None = inl refl
some-or-none (Some x) = inr (x, refl)

-- ---- the better of two ways

same-way : (a : Way) → NoWorse a a
same-way a = inr (refl, omega arith)

chain : (a b c : Way) → NoWorse a b → NoWorse b c → NoWorse a c
chain a b c (inl p) (inl q) = inl (omega arith)
chain a b c (inl p) (inr q) = let same = q.0 in inl (omega arith)
chain a b c (inr p) (inl q) = let same = p.0 in inl (omega arith)
chain a b c (inr p) (inr q) = let x = p.1 in let y = q.1 in inr (p.0 ∙ q.0, omega arith)

both-ways : (a b : Way) → NoWorse a b → NoWorse b a → a ≡ b
both-ways a b (inl p) (inl q) = absurd (omega arith)
both-ways a b (inl p) (inr q) = let e = q.0 in absurd (omega arith)
both-ways a b (inr p) (inl q) = let e = p.0 in absurd (omega arith)
both-ways a b (inr p) (inr q) = let x = p.1 in let y = q.1 in pair-same a.0 b.0 a.1 b.1 p.0 (omega arith)
  where
    pair-same : (m n k l : ℕ) → m ≡ n → k ≡ l → ◌≡◌ {A = ℕ × ℕ} (m, k) (n, l)
    pair-same m n k l e f = ap (λ (x : ℕ). (x, k)) e ∙ ap (λ (x : ℕ). (n, x)) f

better-no-worse : (a b c d : ℕ) → (nat_lt a c || (a == c && nat_lt b d)) ≡ true → IsNoWorse a b c d
better-no-worse a b c d h =
    elim (cases_lt a c) [
      | inl less ↦ inl less
      | inr not-less ↦
          let e : a ≡ c = grind (arith, nat_tests) in
          let f : b < d = grind (arith, nat_tests) in
          inr (e, omega arith)
    ]

not-better : (a b c d : ℕ) → (nat_lt a c || (a == c && nat_lt b d)) ≡ false → IsNoWorse c d a b
not-better a b c d h =
    elim (cases_lt c a) [
      | inl less ↦ inl less
      | inr not-less ↦
          let e : c ≡ a = grind (arith, nat_tests) in
          let f : (b < d → ⊥) = λ l. grind (arith, nat_tests) in
          inr (e, elim (cases_lt b d) [ inl l ↦ absurd (f l) | inr n ↦ n ])
    ]

record IsBetter (way : Way) (other : Option Way) (result : Way) : Type 0 where
  pub one : (result ≡ way) ⊎ (other ≡ Some result)
  pub than-way : NoWorse result way
  pub than-other : (v : Way) → other ≡ Some v → NoWorse result v

better-is : (way : Way) (other : Option Way) → IsBetter way other (better way other)
better-is way None = record { one = inl refl; than-way = same-way way; than-other = λ v e. absurd (none-some v e) }
better-is way (Some other) = by-test way other (is_better other way) refl
  where
    by-test : (way other : Way) (t : Bool) → is_better other way ≡ t → IsBetter way (Some other) (better way (Some other))
    by-test way other true is =
        rw is
        (record {
          one = inr refl;
          than-way = better-no-worse other.0 other.1 way.0 way.1 is;
          than-other = λ v e. subst (NoWorse other) (some-same other v (Some other) refl e) (same-way other);
        })
    by-test way other false is =
        rw is
        (record {
          one = inl refl;
          than-way = same-way way;
          than-other = λ v e. subst (NoWorse way) (some-same other v (Some other) refl e) (not-better other.0 other.1 way.0 way.1 is);
        })

-- ---- the best way to a prefix

record IsBest (cs : List Candidate) (p : ℕ) (v : Way) : Type 0 where
  pub some : (c : Candidate) × Contains cs c × (number c ≡ p) × (way_of c ≡ v)
  pub best : (c : Candidate) → Contains cs c → number c ≡ p → NoWorse v (way_of c)

best-some : (cs : List Candidate) (c : Candidate) → Contains cs c → (v : Way) × (find (best_of cs) (number c) ≡ Some v)
best-some [] c h = absurd (contains_none c h)
best-some (x ∷ cs) c h =
    let b = better (way_of x) (find (best_of cs) (number x)) in
    let put-is = find-put (best_of cs) (number x) b (number c) in
    elim (cases_eq (number x) (number c)) [
      | inl same ↦ (b, put-is ∙ rw (eq-eqb (number x) (number c) same) refl)
      | inr other ↦
          elim (contains_cases x c cs h) [
            | inl is ↦ absurd (other (ap number is))
            | inr there ↦ let rest = best-some cs c there in (rest.0, put-is ∙ rw (ne_eqb (number x) (number c) other) rest.1)
          ]
    ]

module _ (x : Candidate) (cs : List Candidate) where
  at-same : (p : ℕ) (v : Way) → ((u : Way) → find (best_of cs) (number x) ≡ Some u → IsBest cs (number x) u) → number x ≡ p → better (way_of x) (find (best_of cs) (number x)) ≡ v → IsBest (x ∷ cs) p v
  at-same p v rest same is =
      let old = find (best_of cs) (number x) in
      let b : IsBetter (way_of x) old v = subst (IsBetter (way_of x) old) is (better-is (way_of x) old) in
      record {
        some =
            elim b.one [
              | inl here ↦ (x, contains_first x cs, same, sym here)
              | inr there ↦ let s = (rest v there).some in (s.0, contains_rest x s.0 cs s.1, s.2 ∙ same, s.3)
            ];
        best = λ c h e.
            elim (contains_cases x c cs h) [
              | inl here ↦ subst (λ (d : Candidate). NoWorse v (way_of d)) here b.than-way
              | inr there ↦
                  let held = best-some cs c there in
                  let found : old ≡ Some held.0 = ap (find (best_of cs)) (same ∙ sym e) ∙ held.1 in
                  chain v held.0 (way_of c) (b.than-other held.0 found) ((rest held.0 found).best c there (e ∙ sym same))
            ];
      }

  at-other : (p : ℕ) (v : Way) → IsBest cs p v → (number x ≡ p → ⊥) → IsBest (x ∷ cs) p v
  at-other p v rest other =
      record {
        some = let s = rest.some in (s.0, contains_rest x s.0 cs s.1, s.2, s.3);
        best = λ c h e.
            elim (contains_cases x c cs h) [
              | inl here ↦ absurd (other (ap number here ∙ e))
              | inr there ↦ rest.best c there e
            ];
      }

best-is : (cs : List Candidate) (p : ℕ) (v : Way) → find (best_of cs) p ≡ Some v → IsBest cs p v
best-is [] p v e = absurd (none-some v e)
best-is (x ∷ cs) p v e =
    let b = better (way_of x) (find (best_of cs) (number x)) in
    let put-is = find-put (best_of cs) (number x) b p in
    elim (cases_eq (number x) p) [
      | inl same ↦
          let found : Some b ≡ Some v = sym (put-is ∙ rw (eq-eqb (number x) p same) refl) ∙ e in
          at-same x cs p v (λ u f. best-is cs (number x) u f) same (some-same b v (Some b) refl found)
      | inr other ↦
          let found : find (best_of cs) p ≡ Some v = sym (put-is ∙ rw (ne_eqb (number x) p other) refl) ∙ e in
          at-other x cs p v (best-is cs p v found) other
    ]

best-rises : (cs : List Candidate) → RisesFrom 0 (best_of cs)
best-rises [] = tt
best-rises (c ∷ cs) = put-rises (best_of cs) 0 (number c) _ zero-le (best-rises cs)

-- ---- routes as prefixes with their ways

abbrev route-number : Route → ℕ
route-number r = prefix_number r.prefix

abbrev key : Route → ℕ × Way
key r = (route-number r, (rank_number r.rank, r.cost))

abbrev FirstFrom : ℕ → List Route → Type 0
FirstFrom least [] = Unit {0}
FirstFrom least (r ∷ routes) = least ≤ route-number r

tail-rising : (r : Route) (routes : List Route) → AreRising (r ∷ routes) → AreRising routes
tail-rising r routes rising = record { below = λ i j d less l. rising.below (suc i) (suc j) d (omega arith) (omega arith) }

next-from : (r : Route) (routes : List Route) → AreRising (r ∷ routes) → FirstFrom (route-number r + 1) routes
next-from r [] rising = tt
next-from r (s ∷ routes) rising = let less = rising.below 0 1 r (omega arith) (omega arith) in omega (arith, less)

keys-rise : (least : ℕ) (routes : List Route) → AreRising routes → FirstFrom least routes → RisesFrom least (map key routes)
keys-rise least [] rising first = tt
keys-rise least (r ∷ routes) rising first = (first, keys-rise (route-number r + 1) routes (tail-rising r routes rising) (next-from r routes rising))

any-first : (routes : List Route) → FirstFrom 0 routes
any-first [] = tt
any-first (r ∷ routes) = zero-le

found-of : (routes : List Route) (p : ℕ) (v : Way) → find (map key routes) p ≡ Some v → (r : Route) × Contains routes r × (key r ≡ (p, v))
found-of [] p v e = absurd (none-some v e)
found-of (r ∷ routes) p v e =
    elim (cases_eq (route-number r) p) [
      | inl same ↦
          let is : Some (rank_number r.rank, r.cost) ≡ Some v = sym (rw (eq-eqb (route-number r) p same) refl) ∙ e in
          let way : ◌≡◌ {A = Way} (rank_number r.rank, r.cost) v = some-same _ v _ refl is in
          (r, contains_first r routes, ap (λ (n : ℕ). (n, (rank_number r.rank, r.cost))) same ∙ ap (λ (w : Way). (p, w)) way)
      | inr other ↦ let f = found-of routes p v (sym (rw (ne_eqb (route-number r) p other) refl) ∙ e) in (f.0, contains_rest r f.0 routes f.1, f.2)
    ]

is-found : (routes : List Route) (r : Route) → Contains routes r → (v : Way) × (find (map key routes) (route-number r) ≡ Some v)
is-found [] r h = absurd (contains_none r h)
is-found (s ∷ routes) r h =
    elim (cases_eq (route-number s) (route-number r)) [
      | inl same ↦ ((rank_number s.rank, s.cost), rw (eq-eqb (route-number s) (route-number r) same) refl)
      | inr other ↦
          elim (contains_cases s r routes h) [
            | inl is ↦ absurd (other (ap route-number is))
            | inr there ↦ let f = is-found routes r there in (f.0, rw (ne_eqb (route-number s) (route-number r) other) f.1)
          ]
    ]

-- ---- maps in order that find the same are one

find-below : {V : Type 0} → (m : List (ℕ × V)) (least q : ℕ) → RisesFrom least m → q < least → find m q ≡ None
find-below [] least q r h = refl
find-below (p ∷ m) least q r h =
    let first = r.0 in
    rw (ne_eqb p.0 q (λ e. absurd (omega (arith, first, h, e)))) (find-below m (p.0 + 1) q r.1 (omega (arith, first, h)))

found-first : {V : Type 0} → (p : ℕ × V) (m : List (ℕ × V)) → find (p ∷ m) p.0 ≡ Some p.1
found-first p m = rw (eq-eqb p.0 p.0 refl) refl

not-before : {V : Type 0} → (p q : ℕ × V) (a b : List (ℕ × V)) → RisesFrom (q.0 + 1) b → ((n : ℕ) → find (p ∷ a) n ≡ find (q ∷ b) n) → p.0 < q.0 → ⊥
not-before p q a b rises same less =
    let none : find (q ∷ b) p.0 ≡ None = rw (ne_eqb q.0 p.0 (λ e. absurd (omega (arith, less, e)))) (find-below b (q.0 + 1) p.0 rises (omega (arith, less))) in
    none-some p.1 (sym none ∙ sym (same p.0) ∙ found-first p a)

rest-same : {V : Type 0} → (p : ℕ × V) (n : ℕ) (v : V) (a b : List (ℕ × V)) → RisesFrom (p.0 + 1) a → RisesFrom (p.0 + 1) b → ((q : ℕ) → find (p ∷ a) q ≡ find ((p.0, v) ∷ b) q) → (q : ℕ) → find a q ≡ find b q
rest-same p n v a b of-a of-b same q =
    elim (cases_eq p.0 q) [
      | inl is ↦ find-below a (p.0 + 1) q of-a (omega (arith, is)) ∙ sym (find-below b (p.0 + 1) q of-b (omega (arith, is)))
      | inr other ↦ sym (rw (ne_eqb p.0 q other) refl) ∙ same q ∙ rw (ne_eqb p.0 q other) refl
    ]

pub maps-same : {V : Type 0} → (least : ℕ) (a b : List (ℕ × V)) → RisesFrom least a → RisesFrom least b → ((n : ℕ) → find a n ≡ find b n) → a ≡ b
maps-same least [] [] of-a of-b same = refl
maps-same least [] (q ∷ b) of-a of-b same = absurd (none-some q.1 (same q.0 ∙ found-first q b))
maps-same least (p ∷ a) [] of-a of-b same = absurd (none-some p.1 (sym (same p.0) ∙ found-first p a))
maps-same {V} least (p ∷ a) (q ∷ b) of-a of-b same =
    let not-less = not-before p q a b of-b.1 same in
    let not-more = not-before q p b a of-a.1 (λ n. sym (same n)) in
    elim (cases_eq p.0 q.0) [
      | inl is ↦
          let value : p.1 ≡ q.1 = some-same p.1 q.1 (find (p ∷ a) p.0) (found-first p a) (same p.0 ∙ ap (find (q ∷ b)) is ∙ found-first q b) in
          let head : ◌≡◌ {A = ℕ × V} q (p.0, q.1) = ap (λ (n : ℕ). (n, q.1)) (sym is) in
          let again : (n : ℕ) → find (p ∷ a) n ≡ find ((p.0, q.1) ∷ b) n = subst (λ (x : ℕ × V). (n : ℕ) → find (p ∷ a) n ≡ find (x ∷ b) n) head same in
          let rises : RisesFrom (p.0 + 1) b = subst (λ (n : ℕ). RisesFrom (n + 1) b) (sym is) of-b.1 in
          let rest = maps-same (p.0 + 1) a b of-a.1 rises (rest-same p 0 q.1 a b of-a.1 rises again) in
          let whole : ◌≡◌ {A = ℕ × V} p q = ap (λ (v : V). (p.0, v)) value ∙ sym head in
          ap (λ (x : ℕ × V). x ∷ a) whole ∙ ap (λ (m : List (ℕ × V)). q ∷ m) rest
      | inr other ↦ elim (cases_lt p.0 q.0) [ inl less ↦ absurd (not-less less) | inr ge ↦ absurd (not-more (above p.0 q.0 other ge)) ]
    ]
  where
    above : (m n : ℕ) → (m ≡ n → ⊥) → n ≤ m → n < m
    above m n other ge = elim (cases_lt n m) [ inl less ↦ less | inr le ↦ absurd (other (omega arith)) ]

-- ---- routes have the best ways

module _ (HopTo : Candidate → ℕ → Type 0) (cs : List Candidate) (routes : List Route) (are : AreRoutes HopTo cs routes) where
  like-number : (r : Route) (c : Candidate) → c.prefix.address * 64 + c.prefix.length ≡ r.prefix.address * 64 + r.prefix.length → number c ≡ route-number r
  like-number r c e = omega arith

  unlike-number : (r : Route) (c : Candidate) → number c ≡ route-number r → c.prefix.address * 64 + c.prefix.length ≡ r.prefix.address * 64 + r.prefix.length
  unlike-number r c e = omega arith

  -- the way of a route is the best one
  route-best : (r : Route) → Contains routes r → IsBest cs (route-number r) (rank_number r.rank, r.cost)
  route-best r h =
      let is = are.each r h in
      let s = is.some in
      record {
        some = (s.0, s.1, like-number r s.0 s.2.0, ap (λ (n : ℕ). (n, s.0.cost)) s.2.1 ∙ ap (λ (n : ℕ). (rank_number r.rank, n)) s.2.2);
        best = λ c there e. is.best c there (unlike-number r c e);
      }

  one-best : (p : ℕ) (v w : Way) → IsBest cs p v → IsBest cs p w → v ≡ w
  one-best p v w of-v of-w =
      let a = of-v.some in
      let b = of-w.some in
      both-ways v w (subst (NoWorse v) b.3 (of-v.best b.0 b.1 b.2)) (subst (NoWorse w) a.3 (of-w.best a.0 a.1 a.2))

  same-find : (p : ℕ) → find (map key routes) p ≡ find (best_of cs) p
  same-find p =
      elim (some-or-none (find (best_of cs) p)) [
        | inl none ↦
            elim (some-or-none (find (map key routes) p)) [
              | inl none-too ↦ none-too ∙ sym none
              | inr some ↦
                  let r = found-of routes p some.0 some.1 in
                  let c = (route-best r.0 r.1).some in
                  let held = best-some cs c.0 c.1 in
                  let at-p : number c.0 ≡ p = c.2 ∙ ap (λ (k : ℕ × Way). k.0) r.2 in
                  absurd (none-some held.0 (sym none ∙ ap (find (best_of cs)) (sym at-p) ∙ held.1))
            ]
        | inr some ↦
            let best = best-is cs p some.0 some.1 in
            let c = best.some in
            let r = are.all c.0 c.1 in
            let at-p : route-number r.0 ≡ p = sym (like-number r.0 c.0 (sym r.2)) ∙ c.2 in
            let held = is-found routes r.0 r.1 in
            let found : find (map key routes) p ≡ Some held.0 = ap (find (map key routes)) (sym at-p) ∙ held.1 in
            let s = found-of routes p held.0 found in
            let best-s : IsBest cs p held.0 = subst (λ (k : ℕ × Way). IsBest cs k.0 k.1) s.2 (route-best s.0 s.1) in
            found ∙ ap (λ (v : Way). Some v) (one-best p held.0 some.0 best-s best) ∙ sym some.1
      ]

  keys-are : map key routes ≡ best_of cs
  keys-are = maps-same 0 (map key routes) (best_of cs) (keys-rise 0 routes are.rising (any-first routes)) (best-rises cs) same-find

-- ---- what is leaked

leaked-keys : (rank : Rank) (down : Bool) (routes : List Route) → map (λ (item : PrefixItem). pair_of (item_pair item)) (leaks rank down routes) ≡ leaked_of (rank_number rank) (map key routes)
leaked-keys rank down routes =
    let said : Route → ℕ × ℕ = λ (r : Route). (route-number r, leaked_metric r.cost) in
    map-map (λ (item : PrefixItem). pair_of (item_pair item)) said (leaked down) (filter (has_rank rank) routes) (λ r. refl)
    ∙ sym (map-map (λ (b : ℕ × Way). (b.0, leaked_metric b.1.1)) said key (filter (has_rank rank) routes) (λ r. refl))
    ∙ ap (map (λ (b : ℕ × Way). (b.0, leaked_metric b.1.1))) (sym (filter-map (has_way (rank_number rank)) (has_rank rank) key routes (λ r. refl)))

-- routes of an outlook's candidates leak what it does, whatever their next hops are
pub leaks-by : (o : Outlook) (hop_to : Candidate → ℕ → Type 0) (routes : List Route) (level : Level) → AreRoutes hop_to (candidates_of o) routes → leaked_by level routes ≡ leaks_of o level
unfolding leaks_of
leaks-by o hop_to routes level.One are = leaked-keys rank.Two true routes ∙ ap (leaked_of 2) (keys-are hop_to (candidates_of o) routes are)
leaks-by o hop_to routes level.Two are = leaked-keys rank.One false routes ∙ ap (leaked_of 1) (keys-are hop_to (candidates_of o) routes are)

pub leaks-are : (o : Outlook) (routes : List Route) (level : Level) → AreRoutesOf o routes → leaked_by level routes ≡ leaks_of o level
leaks-are o routes level are = leaks-by o _ routes level are
