-- Candidates in order, and the routes made of the first so many.

use Rattle.std.proofs.Common.{◌≡◌, ◌∙◌, ℕ, zero, suc, ◌+◌, ◌-◌, ◌≤◌, ◌<◌, false, List, [], ◌∷◌, ◌++◌, ◌↔◌, length, get_or, refl, sym, ap, subst, arith, inl, inr}
use Rattle.std.specs.Ordering.{nat_cmp, ordering_then, is_lt}
use Rattle.std.specs.List.{Contains}
use Rattle.std.specs.List.Sorted.{IsSortedByKey, IsStrictlyIncreasing}
use Rattle.std.proofs.lemmas.Bool.{cases_lt}
use Rattle.std.proofs.lemmas.Bool.Decides.{nat_tests}
use Rattle.std.proofs.lemmas.List.{get_or_default, get_or_append_left, get_or_push, length_push}
use Rattle.std.proofs.lemmas.List.Elements.{Contains-get_or, Contains-append_left, Contains-push, Contains-push_cases}
use Rattle.route_table.specs.declared.candidate.Candidate.{Candidate}
use Rattle.route_table.specs.declared.route.Route.{Route}
use Rattle.route_table.specs.Ranks.{rank_number, prefix_number}
use Rattle.route_table.specs.Routes.{IsNoWorse, IsRoute, AreRising, AreRoutes}
use Rattle.route_table.specs.Order.{IsNoLater, AreInOrder, IsAsGood, IsRun, IsSamePrefix, AreHopsIn, HaveRoutes}

-- ---- candidates in order

abbrev pub candidate_key : Candidate → ℕ × ℕ × ℕ
candidate_key c = (prefix_number c.prefix, rank_number c.rank, c.cost)

falls_first : (a b c d e f : ℕ) → is_lt (ordering_then (ordering_then (nat_cmp a d) (nat_cmp b e)) (nat_cmp c f)) ≡ false → a < d → ⊥
falls_first a b c d e f h less = grind (arith, nat_tests)

falls_second : (a b c d e f : ℕ) → is_lt (ordering_then (ordering_then (nat_cmp a d) (nat_cmp b e)) (nat_cmp c f)) ≡ false → a ≡ d → b < e → ⊥
falls_second a b c d e f h p less = grind (arith, nat_tests)

falls_third : (a b c d e f : ℕ) → is_lt (ordering_then (ordering_then (nat_cmp a d) (nat_cmp b e)) (nat_cmp c f)) ≡ false → a ≡ d → b ≡ e → c < f → ⊥
falls_third a b c d e f h p q less = grind (arith, nat_tests)

no_later : (x y : Candidate) → is_lt (ordering_then (ordering_then (nat_cmp (prefix_number y.prefix) (prefix_number x.prefix)) (nat_cmp (rank_number y.rank) (rank_number x.rank))) (nat_cmp y.cost x.cost)) ≡ false → IsNoLater x y
no_later x y h =
    let a = prefix_number y.prefix in
    let d = prefix_number x.prefix in
    let b = rank_number y.rank in
    let e = rank_number x.rank in
    elim (cases_lt d a) [
      | inl less ↦ inl less
      | inr not_less ↦
          elim (cases_lt a d) [
            | inl more ↦ absurd (falls_first a b y.cost d e x.cost h more)
            | inr not_more ↦
                let p : a ≡ d = omega arith in
                inr (
                  sym p,
                  (elim (cases_lt e b) [
                    | inl less_rank ↦ inl less_rank
                    | inr not_rank ↦
                        elim (cases_lt b e) [
                          | inl more_rank ↦ absurd (falls_second a b y.cost d e x.cost h p more_rank)
                          | inr not_more_rank ↦
                              let q : b ≡ e = omega arith in
                              inr (
                                sym q,
                                (elim (cases_lt y.cost x.cost) [
                                  | inl cheaper ↦ absurd (falls_third a b y.cost d e x.cost h p q cheaper)
                                  | inr not_cheaper ↦ not_cheaper
                                ]),
                              )
                        ]
                  ]),
                )
          ]
    ]

chain_worse : (a b c d e f : ℕ) → IsNoWorse a b c d → IsNoWorse c d e f → IsNoWorse a b e f
chain_worse a b c d e f (inl p) (inl q) = inl (omega arith)
chain_worse a b c d e f (inl p) (inr q) = let same = q.0 in inl (omega arith)
chain_worse a b c d e f (inr p) (inl q) = let same = p.0 in inl (omega arith)
chain_worse a b c d e f (inr p) (inr q) = let x = p.1 in let y = q.1 in inr (p.0 ∙ q.0, omega arith)

chain : (a b c : Candidate) → IsNoLater a b → IsNoLater b c → IsNoLater a c
chain a b c (inl p) (inl q) = inl (omega arith)
chain a b c (inl p) (inr q) = let same = q.0 in inl (omega arith)
chain a b c (inr p) (inl q) = let same = p.0 in inl (omega arith)
chain a b c (inr p) (inr q) = inr (p.0 ∙ q.0, chain_worse (rank_number a.rank) a.cost (rank_number b.rank) b.cost (rank_number c.rank) c.cost p.1 q.1)

far : (cs : List Candidate) (d : Candidate) → ((k : ℕ) → k + 1 < length cs → IsNoLater (get_or cs k d) (get_or cs (k + 1) d)) → (i n : ℕ) → i + n + 1 < length cs → IsNoLater (get_or cs i d) (get_or cs (i + n + 1) d)
far cs d step i zero l =
    let e : i + 1 ≡ i + zero + 1 = omega arith in
    subst (λ (m : ℕ). IsNoLater (get_or cs i d) (get_or cs m d)) e (step i (omega arith))
far cs d step i (suc n) l =
    let last : IsNoLater (get_or cs (i + n + 1) d) (get_or cs (i + n + 1 + 1) d) = step (i + n + 1) (omega arith) in
    let e : i + n + 1 + 1 ≡ i + suc n + 1 = omega arith in
    chain (get_or cs i d) (get_or cs (i + n + 1) d) (get_or cs (i + suc n + 1) d) (far cs d step i n (omega arith)) (subst (λ (m : ℕ). IsNoLater (get_or cs (i + n + 1) d) (get_or cs m d)) e last)

pub order_is : (cs : List Candidate) → IsSortedByKey candidate_key (λ x y. ordering_then (ordering_then (nat_cmp x.0 y.0) (nat_cmp x.1 y.1)) (nat_cmp x.2 y.2)) cs → AreInOrder cs
order_is cs sorted =
    record {
      order = λ i j d less l.
          let e : i + (j - (i + 1)) + 1 ≡ j = omega arith in
          subst (λ (m : ℕ). IsNoLater (get_or cs i d) (get_or cs m d)) e
          (far cs d (λ k in'. no_later (get_or cs k d) (get_or cs (k + 1) d) (sorted k d (omega arith) in')) i (j - (i + 1)) (omega arith));
    }

-- ---- runs

between_worse : (a b c d e f : ℕ) → IsNoWorse a b c d → IsNoWorse c d e f → e ≡ a → f ≡ b → (c ≡ a) × (d ≡ b)
between_worse a b c d e f (inl p) (inl q) r s = absurd (omega arith)
between_worse a b c d e f (inl p) (inr q) r s = let same = q.0 in absurd (omega arith)
between_worse a b c d e f (inr p) (inl q) r s = let same = p.0 in absurd (omega arith)
between_worse a b c d e f (inr p) (inr q) r s = let x = p.1 in let y = q.1 in (sym p.0, omega arith)

between_good : (a b c : Candidate) → IsNoLater a b → IsNoLater b c → IsAsGood c a → IsAsGood b a
between_good a b c (inl p) (inl q) h = let same = h.0 in absurd (omega arith)
between_good a b c (inl p) (inr q) h = let same = h.0 in let e = q.0 in absurd (omega arith)
between_good a b c (inr p) (inl q) h = let same = h.0 in let e = p.0 in absurd (omega arith)
between_good a b c (inr p) (inr q) h =
    let same = between_worse (rank_number a.rank) a.cost (rank_number b.rank) b.cost (rank_number c.rank) c.cost p.1 q.1 h.1 h.2 in
    (sym p.0, same.0, same.1)

later_prefix : (a b : Candidate) → IsNoLater a b → prefix_number a.prefix ≤ prefix_number b.prefix
later_prefix a b (inl p) = omega arith
later_prefix a b (inr p) = let e = p.0 in omega arith

between_prefix : (a b c : Candidate) → IsNoLater a b → IsNoLater b c → IsSamePrefix c a → IsSamePrefix b a
between_prefix a b c p q h = let x = later_prefix a b p in let y = later_prefix b c q in omega arith

-- no candidate behind a run has what the run has
past_run : (Same : Candidate → Candidate → Type 0) (cs : List Candidate) (first end : ℕ) → ((a b c : Candidate) → IsNoLater a b → IsNoLater b c → Same c a → Same b a) → AreInOrder cs → IsRun Same cs first end → (k : ℕ) (d : Candidate) → end ≤ k → k < length cs → Same (get_or cs k d) (get_or cs first d) → ⊥
past_run Same cs first end between order run k d past l h =
    let after = run.after in
    elim (cases_lt end k) [
      | inl less ↦ run.other d (omega arith) (between (get_or cs first d) (get_or cs end d) (get_or cs k d) (order.order first end d after (omega arith)) (order.order end k d less l) h)
      | inr not_less ↦ let e : k ≡ end = omega arith in run.other d (omega arith) (subst (λ (n : ℕ). Same (get_or cs n d) (get_or cs first d)) e h)
    ]

-- ---- the route of a prefix

abbrev pub route_of : Candidate → List ℕ → Route
route_of best hops = record { prefix = best.prefix; rank = best.rank; cost = best.cost; hops = hops }

same_worse : (a b c d : ℕ) → a ≡ c → b ≡ d → IsNoWorse a b c d
same_worse a b c d p q = inr (p, omega arith)

no_worse : (a b : Candidate) → IsNoLater a b → prefix_number b.prefix ≡ prefix_number a.prefix → IsNoWorse (rank_number a.rank) a.cost (rank_number b.rank) b.cost
no_worse a b (inl p) e = absurd (omega arith)
no_worse a b (inr p) e = p.1

-- what the candidates before a prefix's first are not: for that prefix
abbrev pub IsCutAt : List Candidate → ℕ → Type 0
IsCutAt cs first = (i : ℕ) (d : Candidate) → i < first → prefix_number (get_or cs i d).prefix < prefix_number (get_or cs first d).prefix

not_before : (cs : List Candidate) (first : ℕ) (d c : Candidate) → IsCutAt cs first → first < length cs → (k : ℕ) → get_or cs k c ≡ c → prefix_number c.prefix ≡ prefix_number (get_or cs first d).prefix → first ≤ k
not_before cs first d c cut in' k e same =
    elim (cases_lt k first) [
      | inl less ↦
          let below = cut k c less in
          let p : prefix_number (get_or cs k c).prefix ≡ prefix_number c.prefix = ap (λ (x : Candidate). prefix_number x.prefix) e in
          let q : prefix_number (get_or cs first c).prefix ≡ prefix_number (get_or cs first d).prefix = ap (λ (x : Candidate). prefix_number x.prefix) (get_or_default cs first c d in') in
          absurd (omega arith)
      | inr not_less ↦ not_less
    ]

best_is : (cs : List Candidate) (first : ℕ) (d c : Candidate) → AreInOrder cs → IsCutAt cs first → first < length cs → (k : ℕ) → k < length cs → get_or cs k c ≡ c → prefix_number c.prefix ≡ prefix_number (get_or cs first d).prefix
    → IsNoWorse (rank_number (get_or cs first d).rank) (get_or cs first d).cost (rank_number c.rank) c.cost
best_is cs first d c order cut in' k l e same =
    let from = not_before cs first d c cut in' k e same in
    let default : get_or cs first c ≡ get_or cs first d = get_or_default cs first c d in' in
    elim (cases_lt first k) [
      | inl less ↦
          let o : IsNoLater (get_or cs first d) c = subst (λ (x : Candidate). IsNoLater x c) default (subst (λ (x : Candidate). IsNoLater (get_or cs first c) x) e (order.order first k c less l)) in
          no_worse (get_or cs first d) c o same
      | inr not_less ↦
          let k_is : k ≡ first = omega arith in
          let is : c ≡ get_or cs first d = sym e ∙ ap (λ (n : ℕ). get_or cs n c) k_is ∙ default in
          same_worse (rank_number (get_or cs first d).rank) (get_or cs first d).cost (rank_number c.rank) c.cost (ap (λ (x : Candidate). rank_number x.rank) (sym is)) (ap (λ (x : Candidate). x.cost) (sym is))
    ]

good_run : (cs : List Candidate) (first end : ℕ) (d c : Candidate) → first < length cs → IsRun IsAsGood cs first end → (k : ℕ) → first ≤ k → k < end → get_or cs k c ≡ c → IsAsGood c (get_or cs first d)
good_run cs first end d c in' run k from to e =
    subst (λ (x : Candidate). IsAsGood c x) (get_or_default cs first c d in') (subst (λ (x : Candidate). IsAsGood x (get_or cs first c)) e (run.same k c from to))

in_run : (cs : List Candidate) (first end : ℕ) (d c : Candidate) → AreInOrder cs → first < length cs → IsRun IsAsGood cs first end → (k : ℕ) → k < length cs → get_or cs k c ≡ c → IsAsGood c (get_or cs first d) → k < end
in_run cs first end d c order in' run k l e good =
    elim (cases_lt k end) [
      | inl less ↦ less
      | inr not_less ↦
          let here : IsAsGood (get_or cs k c) (get_or cs first d) = subst (λ (x : Candidate). IsAsGood x (get_or cs first d)) (sym e) good in
          let there : IsAsGood (get_or cs k c) (get_or cs first c) = subst (λ (x : Candidate). IsAsGood (get_or cs k c) x) (sym (get_or_default cs first c d in')) here in
          absurd (past_run IsAsGood cs first end between_good order run k c not_less l there)
    ]

pub route_is : (HopTo : Candidate → ℕ → Type 0) (cs : List Candidate) (first end : ℕ) (d : Candidate) (hops : List ℕ) → AreInOrder cs → IsCutAt cs first → first < length cs → IsRun IsAsGood cs first end → IsStrictlyIncreasing hops → AreHopsIn HopTo cs first end hops
    → IsRoute HopTo cs (route_of (get_or cs first d) hops)
route_is HopTo cs first end d hops order cut in' run rising are =
    let within = run.within in
    record {
      some = (get_or cs first d, Contains-get_or cs first d in', (refl, refl, refl));
      best = λ c there same. best_is cs first d c order cut in' there.0 there.1 there.2 same;
      rising = rising;
      hops = λ hop. (
        (λ h. let t = (are hop).0 h in (t.1, (t.0, omega arith, t.4), good_run cs first end d t.1 in' run t.0 t.2 t.3 t.4, t.5)),
        (λ h.
            let c = h.0 in
            let there = h.1 in
            (are hop).1 (there.0, c, not_before cs first d c cut in' there.0 there.2 (h.2).0, in_run cs first end d c order in' run there.0 there.1 there.2 h.2, there.2, h.3)),
      );
    }

-- ---- the routes of the first so many candidates

pub have_none : (HopTo : Candidate → ℕ → Type 0) (cs : List Candidate) → HaveRoutes HopTo cs [] 0
have_none HopTo cs =
    record {
      within = omega arith;
      cut = λ i j d less. absurd (omega arith);
      rising = record { below = λ i j d less l. absurd (omega arith) };
      each = λ r h. let l = h.1 in absurd (omega arith);
      all = λ k d less. absurd (omega arith);
      below = λ r k d h. let l = h.1 in absurd (omega arith);
    }

past_prefix : (cs : List Candidate) (first end : ℕ) → AreInOrder cs → IsRun IsSamePrefix cs first end → (k : ℕ) (d : Candidate) → end ≤ k → k < length cs → prefix_number (get_or cs first d).prefix < prefix_number (get_or cs k d).prefix
past_prefix cs first end order run k d past l =
    let after = run.after in
    let low = later_prefix (get_or cs first d) (get_or cs k d) (order.order first k d (omega arith) l) in
    elim (cases_lt (prefix_number (get_or cs first d).prefix) (prefix_number (get_or cs k d).prefix)) [
      | inl less ↦ less
      | inr not_less ↦ absurd (past_run IsSamePrefix cs first end between_prefix order run k d past l (omega arith))
    ]

rising_more : (routes : List Route) (route : Route) → AreRising routes → ((r : Route) → Contains routes r → prefix_number r.prefix < prefix_number route.prefix) → AreRising (routes ++ route ∷ [])
rising_more routes route rising below =
    record {
      below = λ i j d less l.
          let long = length_push routes route in
          let at_i : prefix_number (get_or (routes ++ route ∷ []) i d).prefix ≡ prefix_number (get_or routes i d).prefix = ap (λ (r : Route). prefix_number r.prefix) (get_or_append_left routes (route ∷ []) d i (omega arith)) in
          elim (cases_lt j (length routes)) [
            | inl old ↦
                let at_j : prefix_number (get_or (routes ++ route ∷ []) j d).prefix ≡ prefix_number (get_or routes j d).prefix = ap (λ (r : Route). prefix_number r.prefix) (get_or_append_left routes (route ∷ []) d j old) in
                let up = rising.below i j d less old in
                omega arith
            | inr new ↦
                let at_j : prefix_number (get_or (routes ++ route ∷ []) j d).prefix ≡ prefix_number route.prefix = ap (λ (r : Route). prefix_number r.prefix) (get_or_push routes route d j (omega arith)) in
                let up = below (get_or routes i d) (Contains-get_or routes i d (omega arith)) in
                omega arith
          ];
    }

pub cut_at : (HopTo : Candidate → ℕ → Type 0) (cs : List Candidate) (routes : List Route) (first : ℕ) → HaveRoutes HopTo cs routes first → first < length cs → IsCutAt cs first
cut_at HopTo cs routes first have in' i d less = have.cut i first d less (omega arith) in'

pub have_more : (HopTo : Candidate → ℕ → Type 0) (cs : List Candidate) (routes : List Route) (route : Route) (first end : ℕ) → AreInOrder cs → HaveRoutes HopTo cs routes first → first < length cs → IsRun IsSamePrefix cs first end → IsRoute HopTo cs route → ((d : Candidate) → route.prefix ≡ (get_or cs first d).prefix)
    → HaveRoutes HopTo cs (routes ++ route ∷ []) end
have_more HopTo cs routes route first end order have in' run is prefix =
    let after = run.after in
    let number : (d : Candidate) → prefix_number route.prefix ≡ prefix_number (get_or cs first d).prefix = λ d. ap prefix_number (prefix d) in
    record {
      within = run.within;
      cut = λ i j d less past l.
          elim (cases_lt i first) [
            | inl old ↦ have.cut i j d old (omega arith) l
            | inr new ↦
                let up = past_prefix cs first end order run j d past l in
                let same = run.same i d new less in
                omega arith
          ];
      rising = rising_more routes route have.rising (λ r h. let d = is.some.0 in let up = have.below r first d h (omega arith) in' in let e = number d in omega arith);
      each = λ r h.
          elim (Contains-push_cases routes route r h) [
            | inl old ↦ have.each r old
            | inr new ↦ subst (λ (x : Route). IsRoute HopTo cs x) new is
          ];
      all = λ k d less.
          elim (cases_lt k first) [
            | inl old ↦ let a = have.all k d old in (a.0, Contains-append_left routes (route ∷ []) a.0 a.1, a.2)
            | inr new ↦ (route, Contains-push routes route, number d ∙ sym (run.same k d new less))
          ];
      below = λ r k d h past l.
          let up = past_prefix cs first end order run k d past l in
          elim (Contains-push_cases routes route r h) [
            | inl old ↦ have.below r k d old (omega arith) l
            | inr new ↦
                let e = number d in
                let here : prefix_number route.prefix < prefix_number (get_or cs k d).prefix = omega arith in
                subst (λ (x : Route). prefix_number x.prefix < prefix_number (get_or cs k d).prefix) new here
          ];
    }

pub have_all : (HopTo : Candidate → ℕ → Type 0) (cs : List Candidate) (routes : List Route) (many : ℕ) → length cs ≤ many → HaveRoutes HopTo cs routes many → AreRoutes HopTo cs routes
have_all HopTo cs routes many past have =
    record {
      rising = have.rising;
      each = have.each;
      all = λ c there.
          let a = have.all there.0 c (let l = there.1 in omega arith) in
          (a.0, a.1, a.2 ∙ ap (λ (x : Candidate). prefix_number x.prefix) there.2);
    }

-- ---- the same of other lists of the same candidates, and of other words for the same hops

pub routes_by : (HopTo HopBy : Candidate → ℕ → Type 0) (cs ds : List Candidate) (routes : List Route) → ((c : Candidate) → Contains ds c → Contains cs c) → ((c : Candidate) → Contains cs c → Contains ds c) → ((c : Candidate) (hop : ℕ) → HopTo c hop ↔ HopBy c hop)
    → AreRoutes HopTo cs routes → AreRoutes HopBy ds routes
routes_by HopTo HopBy cs ds routes into out same are =
    record {
      rising = are.rising;
      each = λ r h.
          let e = are.each r h in
          record {
            some = (e.some.0, out e.some.0 e.some.1, e.some.2);
            best = λ c there. e.best c (into c there);
            rising = e.rising;
            hops = λ hop. (
              (λ in'. let t = (e.hops hop).0 in' in (t.0, out t.0 t.1, t.2, (same t.0 hop).0 t.3)),
              (λ t. (e.hops hop).1 (t.0, into t.0 t.1, t.2, (same t.0 hop).1 t.3)),
            );
          };
      all = λ c there. are.all c (into c there);
    }
