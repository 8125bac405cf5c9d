-- The walk over two lists of rows in order finds their differences.
use Rattle.std.proofs.Common.{◌≡◌, ◌∙◌, ℕ, zero, suc, ◌+◌, ◌-◌, ◌^◌, ◌≤◌, ◌<◌, Bool, true, false, cond, min, List, [], ◌∷◌, ◌++◌, length, take, drop, get_or, refl, sym, ap, subst, arith, ◌⊎◌, inl, inr}
use Rattle.std.specs.Ordering.{nat_cmp, ordering_then, is_lt}
use Rattle.std.specs.List.Sorted.{IsSortedByKey}
use Rattle.std.proofs.lemmas.Bool.{cases_lt, cases_Bool, and_parts, eqb-true, eq-eqb}
use Rattle.std.proofs.lemmas.Bool.Decides.{nat_tests}
use Rattle.std.proofs.lemmas.List.{get_or_default}
use Rattle.std.proofs.lemmas.List.Sums.{sum_by_push, sum_by-cons}
use Rattle.spf_tree.specs.declared.row.Row.{Row}
use Rattle.spf_tree.specs.Walks.{start, end}
use Rattle.isis_base.specs.declared.identifiers.NodeId.{NodeId}
use Rattle.spf_tree.specs.Graphs.{GraphOf, AreUsable, same_row, times}
use Rattle.spf_tree.proofs.UsableLemmas.{row_key}
use Rattle.spf_repair.specs.Changes.{RepairedOf}
use Rattle.spf_repair.proofs.ReplaceLemmas.{more_times, times_all}
use Rattle.router_routes.specs.declared.differences.Side.TheVariants.{Old, New, Both}
use Rattle.router_routes.specs.Differences.{AreDifferences, IsBefore, IsNotAfter, IsSame, AreInOrder, IsNext, IsParting}
use Rattle.router_routes.specs.Counts.{Counts}

-- ---- rows in order

falls-first : (a b c d e f : ℕ) → is_lt (ordering_then (ordering_then (nat_cmp a d) (nat_cmp b e)) (nat_cmp c f)) ≡ false → a < d → ⊥
falls-first a b c d e f h less = grind (arith, nat_tests)

falls-second : (a b c d e f : ℕ) → is_lt (ordering_then (ordering_then (nat_cmp a d) (nat_cmp b e)) (nat_cmp c f)) ≡ false → a ≡ d → b < e → ⊥
falls-second a b c d e f h p less = grind (arith, nat_tests)

falls-third : (a b c d e f : ℕ) → is_lt (ordering_then (ordering_then (nat_cmp a d) (nat_cmp b e)) (nat_cmp c f)) ≡ false → a ≡ d → b ≡ e → c < f → ⊥
falls-third a b c d e f h p q less = grind (arith, nat_tests)

not-after : (x y : Row) → is_lt (ordering_then (ordering_then (nat_cmp (start y) (start x)) (nat_cmp (end y) (end x))) (nat_cmp y.metric x.metric)) ≡ false → IsNotAfter x y
not-after x y h =
    let a = start y in
    let d = start x in
    let b = end y in
    let e = end x in
    elim (cases_lt d a) [
      | inl less ↦ inl less
      | inr not-less ↦
          elim (cases_lt a d) [
            | inl more ↦ absurd (falls-first a b y.metric d e x.metric h more)
            | inr not-more ↦
                let p : a ≡ d = omega arith in
                inr (
                  sym p,
                  (elim (cases_lt e b) [
                    | inl less-end ↦ inl less-end
                    | inr not-end ↦
                        elim (cases_lt b e) [
                          | inl more-end ↦ absurd (falls-second a b y.metric d e x.metric h p more-end)
                          | inr not-more-end ↦
                              let q : b ≡ e = omega arith in
                              inr (
                                sym q,
                                (elim (cases_lt y.metric x.metric) [
                                  | inl cheaper ↦ absurd (falls-third a b y.metric d e x.metric h p q cheaper)
                                  | inr not-cheaper ↦ not-cheaper
                                ]),
                              )
                        ]
                  ]),
                )
          ]
    ]

abbrev Ends : ℕ → ℕ → ℕ → ℕ → Type 0
Ends a b c d = (a < c) ⊎ ((a ≡ c) × (b ≤ d))

chain-ends : (a b c d e f : ℕ) → Ends a b c d → Ends c d e f → Ends a b e f
chain-ends a b c d e f (inl p) (inl q) = inl (omega arith)
chain-ends a b c d e f (inl p) (inr q) = let same = q.0 in inl (omega arith)
chain-ends a b c d e f (inr p) (inl q) = let same = p.0 in inl (omega arith)
chain-ends a b c d e f (inr p) (inr q) = let x = p.1 in let y = q.1 in inr (p.0 ∙ q.0, omega arith)

chain : (a b c : Row) → IsNotAfter a b → IsNotAfter b c → IsNotAfter a c
chain a b c (inl p) (inl q) = inl (omega arith)
chain a b c (inl p) (inr q) = let same = q.0 in inl (omega arith)
chain a b c (inr p) (inl q) = let same = p.0 in inl (omega arith)
chain a b c (inr p) (inr q) = inr (p.0 ∙ q.0, chain-ends (end a) a.metric (end b) b.metric (end c) c.metric p.1 q.1)

far : (rows : List Row) (d : Row) → ((k : ℕ) → k + 1 < length rows → IsNotAfter (get_or rows k d) (get_or rows (k + 1) d)) → (i n : ℕ) → i + n + 1 < length rows → IsNotAfter (get_or rows i d) (get_or rows (i + n + 1) d)
far rows d step i zero l =
    let e : i + 1 ≡ i + zero + 1 = omega arith in
    subst (λ (m : ℕ). IsNotAfter (get_or rows i d) (get_or rows m d)) e (step i (omega arith))
far rows d step i (suc n) l =
    let last : IsNotAfter (get_or rows (i + n + 1) d) (get_or rows (i + n + 1 + 1) d) = step (i + n + 1) (omega arith) in
    let e : i + n + 1 + 1 ≡ i + suc n + 1 = omega arith in
    chain (get_or rows i d) (get_or rows (i + n + 1) d) (get_or rows (i + suc n + 1) d) (far rows d step i n (omega arith)) (subst (λ (m : ℕ). IsNotAfter (get_or rows (i + n + 1) d) (get_or rows m d)) e last)

pub order-is : (rows : List Row) → IsSortedByKey row_key (λ x y. ordering_then (ordering_then (nat_cmp x.0 y.0) (nat_cmp x.1 y.1)) (nat_cmp x.2 y.2)) rows → AreInOrder rows
order-is rows sorted =
    record {
      order = λ i j d less l.
          let e : i + (j - (i + 1)) + 1 ≡ j = omega arith in
          subst (λ (m : ℕ). IsNotAfter (get_or rows i d) (get_or rows m d)) e
          (far rows d (λ k in'. not-after (get_or rows k d) (get_or rows (k + 1) d) (sorted k d (omega arith) in')) i (j - (i + 1)) (omega arith));
    }

-- ---- rows that are alike, and rows that aren't

same-is : (x a : Row) → same_row x a ≡ true → IsSame x a
same-is x a h =
    let p = and_parts _ _ h in
    let q = and_parts _ _ p.1 in
    (eqb-true (start x) (start a) p.0, eqb-true (end x) (end a) q.0, eqb-true x.metric a.metric q.1)

before-other : (a c : Row) → IsBefore a c → IsSame a c → ⊥
before-other a c (inl p) same = let e = same.0 in absurd (omega (arith, p, e))
before-other a c (inr (e, inl p)) same = let f = same.1 in absurd (omega (arith, p, f))
before-other a c (inr (e, inr (f, p))) same = let g = same.2 in absurd (omega (arith, p, g))

before-not : (x a c : Row) → IsBefore a c → same_row x a ≡ true → same_row x c ≡ false
before-not x a c before is =
    elim (cases_Bool (same_row x c)) [
      | inl yes-same ↦
          let p = same-is x a is in
          let q = same-is x c yes-same in
          absurd (before-other a c before (sym p.0 ∙ q.0, sym p.1 ∙ q.1, sym p.2 ∙ q.2))
      | inr not-same ↦ not-same
    ]

before-more : (a b c : Row) → IsBefore a b → IsNotAfter b c → IsBefore a c
before-more a b c (inl p) (inl q) = inl (omega (arith, p, q))
before-more a b c (inl p) (inr q) = let e = q.0 in inl (omega (arith, p, e))
before-more a b c (inr p) (inl q) = let e = p.0 in inl (omega (arith, e, q))
before-more a b c (inr (e, inl p)) (inr (f, inl q)) = inr (e ∙ f, inl (omega (arith, p, q)))
before-more a b c (inr (e, inl p)) (inr (f, inr q)) = let g = q.0 in inr (e ∙ f, inl (omega (arith, p, g)))
before-more a b c (inr (e, inr p)) (inr (f, inl q)) = let g = p.0 in inr (e ∙ f, inl (omega (arith, g, q)))
before-more a b c (inr (e, inr (g, p))) (inr (f, inr (h, q))) = inr (e ∙ f, inr (g ∙ h, omega (arith, p, q)))

pushed : (rows : List Row) (row q : Row) → times (rows ++ row ∷ []) q ≡ times rows q + cond (same_row q row) 1 0
pushed rows row q = sum_by_push (λ y. cond (same_row q y) 1 0) rows row

abbrev bit : Bool → ℕ
bit t = cond t 1 0

one-of : (t : Bool) → t ≡ true → bit t ≡ 1
one-of true e = refl
one-of false e = absurd (let f : false ≡ true = e in cc)

none-of : (t : Bool) → t ≡ false → bit t ≡ 0
none-of true e = absurd (let f : true ≡ false = e in cc)
none-of false e = refl

-- ---- the turns of the walk

swap : (old new removed added : List Row) (here there : ℕ) → IsParting old new removed added here there → IsParting new old added removed there here
swap old new removed added here there is = record {
  within_old = is.within_new;
  within_new = is.within_old;
  counts = λ row. sym (is.counts row);
  apart = λ row. elim (is.apart row) [ inl e ↦ inr e | inr e ↦ inl e ];
  past_new = is.past_old;
  past_old = is.past_new;
}

module _ (old new removed added : List Row) (here there : ℕ) (row : Row) (is : IsParting old new removed added here there) (inside : here < length old) (at-here : row ≡ get_or old here row) (before : (d : Row) → there < length new → IsBefore (get_or old here d) (get_or new there d)) (ordered : AreInOrder new) where
  row-before : (k : ℕ) (d : Row) → there ≤ k → k < length new → IsBefore row (get_or new k d)
  row-before k d from l =
      let first : IsBefore (get_or old here d) (get_or new there d) = before d (omega (arith, from, l)) in
      let is-row : get_or old here d ≡ row = get_or_default old here d row inside ∙ sym at-here in
      let of-row : IsBefore row (get_or new there d) = subst (λ (r : Row). IsBefore r (get_or new there d)) is-row first in
      elim (cases_lt there k) [
        | inl less ↦ before-more row (get_or new there d) (get_or new k d) of-row (ordered.order there k d less l)
        | inr not-less ↦ let e : there ≡ k = omega (arith, from, not-less) in subst (λ (n : ℕ). IsBefore row (get_or new n d)) e of-row
      ]

  none-added : (x : Row) → same_row x row ≡ true → times added x ≡ 0
  none-added x same =
      elim (cases_lt 0 (times added x)) [
        | inl some ↦
            let other = is.past_old x (omega (arith, some)) here row (omega arith) inside in
            let same-there : same_row x (get_or old here row) ≡ true = subst (λ (r : Row). same_row x r ≡ true) at-here same in
            absurd (let f : true ≡ false = sym same-there ∙ other in cc)
        | inr none ↦ omega (arith, none)
      ]

  turn-old : IsParting old new (removed ++ row ∷ []) added (here + 1) there
  turn-old =
      record {
        within_old = omega (arith, inside);
        within_new = is.within_new;
        counts = λ x.
            let more = more_times old here row x inside in
            let same : bit (same_row x (get_or old here row)) ≡ bit (same_row x row) = ap (λ (r : Row). bit (same_row x r)) (sym at-here) in
            let put = pushed removed row x in
            let so-far = is.counts x in
            omega (arith, more, same, put, so-far);
        apart = λ x.
            elim (cases_Bool (same_row x row)) [
              | inl same ↦ inr (none-added x same)
              | inr other ↦
                  let put = pushed removed row x in
                  let none = none-of (same_row x row) other in
                  elim (is.apart x) [ inl e ↦ inl (omega (arith, put, none, e)) | inr e ↦ inr e ]
            ];
        past_new = λ x some k d from l.
            elim (cases_Bool (same_row x row)) [
              | inl same ↦ before-not x row (get_or new k d) (row-before k d from l) same
              | inr other ↦
                  let put = pushed removed row x in
                  let none = none-of (same_row x row) other in
                  is.past_new x (omega (arith, put, none, some)) k d from l
            ];
        past_old = λ x some k d from l. is.past_old x some k d (omega (arith, from)) l;
      }

turn-new : (old new removed added : List Row) (here there : ℕ) (row : Row) → IsParting old new removed added here there → there < length new → row ≡ get_or new there row → ((d : Row) → here < length old → IsBefore (get_or new there d) (get_or old here d)) → AreInOrder old
    → IsParting old new removed (added ++ row ∷ []) here (there + 1)
turn-new old new removed added here there row is inside at-there before ordered =
    swap new old (added ++ row ∷ []) removed (there + 1) here (turn-old new old added removed there here row (swap old new removed added here there is) inside at-there before ordered)

same-rows : (x a b : Row) → IsSame a b → bit (same_row x a) ≡ bit (same_row x b)
same-rows x a b same = rw (same.0, same.1, same.2) refl

turn-both : (old new removed added : List Row) (here there : ℕ) → IsParting old new removed added here there → here < length old → there < length new → ((d : Row) → IsSame (get_or old here d) (get_or new there d)) → IsParting old new removed added (here + 1) (there + 1)
turn-both old new removed added here there is in-old in-new same = record {
  within_old = omega (arith, in-old);
  within_new = omega (arith, in-new);
  counts = λ x.
      let more-old = more_times old here x x in-old in
      let more-new = more_times new there x x in-new in
      let both = same-rows x (get_or old here x) (get_or new there x) (same x) in
      let so-far = is.counts x in
      omega (arith, more-old, more-new, both, so-far);
  apart = is.apart;
  past_new = λ x some k d from l. is.past_new x some k d (omega (arith, from)) l;
  past_old = λ x some k d from l. is.past_old x some k d (omega (arith, from)) l;
}

-- ---- the turns as contracts have them

pub by-old : (old new removed added now : List Row) (here there : ℕ) (d : Row) → now ≡ removed ++ get_or old here d ∷ [] → IsParting old new removed added here there → IsNext Old old new here there → AreInOrder new → IsParting old new now added (here + 1) there
by-old old new removed added now here there d same is next ordered =
    subst (λ (l : List Row). IsParting old new l added (here + 1) there) (sym same)
    (turn-old old new removed added here there (get_or old here d) is next.0 (get_or_default old here d (get_or old here d) next.0) next.1 ordered)

pub by-new : (old new removed added now : List Row) (here there : ℕ) (d : Row) → now ≡ added ++ get_or new there d ∷ [] → IsParting old new removed added here there → IsNext New old new here there → AreInOrder old → IsParting old new removed now here (there + 1)
by-new old new removed added now here there d same is next ordered =
    subst (λ (l : List Row). IsParting old new removed l here (there + 1)) (sym same)
    (turn-new old new removed added here there (get_or new there d) is next.0 (get_or_default new there d (get_or new there d) next.0) next.1 ordered)

pub by-both : (old new removed added : List Row) (here there : ℕ) → IsParting old new removed added here there → IsNext Both old new here there → IsParting old new removed added (here + 1) (there + 1)
by-both old new removed added here there is next = turn-both old new removed added here there is next.0 next.1 next.2

pub parting-begins : (old new : List Row) → IsParting old new [] [] 0 0
parting-begins old new = record {
  within_old = omega arith;
  within_new = omega arith;
  counts = λ x. refl;
  apart = λ x. inl refl;
  past_new = λ x some k d from l. absurd (omega (arith, some));
  past_old = λ x some k d from l. absurd (omega (arith, some));
}

pub parting-ends : (old new removed added : List Row) (here there : ℕ) → IsParting old new removed added here there → length old ≤ here → length new ≤ there → AreDifferences old new removed added
parting-ends old new removed added here there is end-old end-new = record {
  counts = λ x.
      let all-old = times_all old here x end-old in
      let all-new = times_all new there x end-new in
      let so-far = is.counts x in
      omega (arith, all-old, all-new, so-far);
  apart = is.apart;
}

-- ---- rows in any order

pub differences-by : (old new as-old as-new removed added : List Row) → ((x : Row) → times as-old x ≡ times old x) → ((x : Row) → times as-new x ≡ times new x) → AreDifferences as-old as-new removed added → AreDifferences old new removed added
differences-by old new as-old as-new removed added of-old of-new is = record {
  counts = λ x. let c = is.counts x in let a = of-old x in let b = of-new x in omega (arith, c, a, b);
  apart = is.apart;
}

pub differences-of : (a b c d x y z w : List Row) → a ≡ x → b ≡ y → c ≡ z → d ≡ w → AreDifferences a b c d → AreDifferences x y z w
differences-of a b c d x y z w e f g h is =
    subst (λ (l : List Row). AreDifferences l y z w) e (subst (λ (l : List Row). AreDifferences a l z w) f (subst (λ (l : List Row). AreDifferences a b l w) g (subst (λ (l : List Row). AreDifferences a b c l) h is)))

-- a graph with the rows of another, each as often, is one of the same rows
pub usable-times : (rows : List Row) (overloaded : List NodeId) (root from : NodeId) (graph now : GraphOf) → AreUsable rows overloaded from graph → ((x : Row) → times now.rows x ≡ times graph.rows x) → from ≡ root → now.root ≡ root → AreUsable rows overloaded root now
usable-times rows overloaded root from graph now is same at-root is-root =
    let of-root : AreUsable rows overloaded root graph = subst (λ (n : NodeId). AreUsable rows overloaded n graph) at-root is in
    record { from = is-root; rows_are = λ x. same x ∙ of-root.rows_are x }

-- ---- a change by the differences

pub removed-there : (old new removed added : List Row) → AreDifferences old new removed added → (x : Row) → times removed x ≤ times old x
removed-there old new removed added is x =
    let c = is.counts x in
    elim (is.apart x) [ inl e ↦ omega (arith, c, e) | inr e ↦ omega (arith, c, e) ]

pub same-times : (old new now removed added : List Row) → AreDifferences old new removed added → ((x : Row) → times now x + times removed x ≡ times old x + times added x) → (x : Row) → times now x ≡ times new x
same-times old new now removed added is rows x = let c = is.counts x in let r = rows x in omega (arith, c, r)

first-once : (x : Row) (rows : List Row) → 1 ≤ times (x ∷ rows) x
first-once x rows =
    let split : times (x ∷ rows) x ≡ cond (same_row x x) 1 0 + times rows x = sum_by-cons (λ y. cond (same_row x y) 1 0) x rows in
    let same : same_row x x ≡ true = rw (eq-eqb (start x) (start x) refl, eq-eqb (end x) (end x) refl, eq-eqb x.metric x.metric refl) refl in
    let one = one-of (same_row x x) same in
    omega (arith, split, one)

module _ (old now : RepairedOf) (removed added : List Row) (apart : (x : Row) → (times removed x ≡ 0) ⊎ (times added x ≡ 0)) (rows : (x : Row) → times now.graph.rows x + times removed x ≡ times old.graph.rows x + times added x) (changed : 0 < length removed + length added → now.changes ≡ min (old.changes + 1) (2 ^ 64 - 1)) (none : length removed + length added ≡ 0 → now ≡ old) where
  nothing-differs : (xs ys : List Row) → ((x : Row) → times now.graph.rows x ≡ times old.graph.rows x) → xs ≡ removed → ys ≡ added → length removed + length added ≡ 0
  nothing-differs [] [] same e f = let a = ap length e in let b = ap length f in omega (arith, a, b)
  nothing-differs [] (x ∷ ys) same e f =
      let once : 1 ≤ times added x = subst (λ (l : List Row). 1 ≤ times l x) f (first-once x ys) in
      let no-removed : times removed x ≡ 0 = ap (λ (l : List Row). times l x) (sym e) in
      let r = rows x in
      let s = same x in
      absurd (omega (arith, once, no-removed, r, s))
  nothing-differs (x ∷ xs) ys same e f =
      let once : 1 ≤ times removed x = subst (λ (l : List Row). 1 ≤ times l x) e (first-once x xs) in
      let r = rows x in
      let s = same x in
      elim (apart x) [
        | inl zero-removed ↦ absurd (omega (arith, once, zero-removed))
        | inr zero-added ↦ absurd (omega (arith, once, zero-added, r, s))
      ]

  none-listed : (xs : List Row) → length xs ≡ 0 → (x : Row) → times xs x ≡ 0
  none-listed [] e x = refl
  none-listed (y ∷ xs) e x = absurd (omega (arith, e))

  pub counts-are : Counts old now
  counts-are =
      record {
        same = λ same. ap (λ (r : RepairedOf). r.changes) (none (nothing-differs removed added same refl refl));
        changed = λ x differ.
            elim (cases_lt 0 (length removed + length added)) [
              | inl some ↦ changed some
              | inr nothing ↦
                  let a = none-listed removed (omega (arith, nothing)) x in
                  let b = none-listed added (omega (arith, nothing)) x in
                  let r = rows x in
                  absurd (differ (omega (arith, a, b, r)))
            ];
      }

-- ---- rows that both lists begin or end with

consed : (row : Row) (rows : List Row) (q : Row) → times (row ∷ rows) q ≡ cond (same_row q row) 1 0 + times rows q
consed row rows q = sum_by-cons (λ y. cond (same_row q y) 1 0) row rows

dropped : (rows : List Row) (k : ℕ) (x d : Row) → k < length rows → times (drop k rows) x ≡ cond (same_row x (get_or rows k d)) 1 0 + times (drop (suc k) rows) x
dropped [] k x d l = absurd (omega (arith, l))
dropped (row ∷ rows) zero x d l = consed row rows x
dropped (row ∷ rows) (suc k) x d l = dropped rows k x d (omega (arith, l))

-- what both lists begin with
pub past-one : (old new removed added : List Row) (k : ℕ) → k < length old → k < length new → ((d : Row) → IsSame (get_or old k d) (get_or new k d)) → AreDifferences (drop (k + 1) old) (drop (k + 1) new) removed added → AreDifferences (drop k old) (drop k new) removed added
past-one old new removed added k in-old in-new same is =
    let next : k + 1 ≡ suc k = omega arith in
    let from : AreDifferences (drop (suc k) old) (drop (suc k) new) removed added = subst (λ (m : ℕ). AreDifferences (drop m old) (drop m new) removed added) next is in
    record {
      counts = λ x.
          let c = from.counts x in
          let a = dropped old k x x in-old in
          let b = dropped new k x x in-new in
          let both = same-rows x (get_or old k x) (get_or new k x) (same x) in
          omega (arith, c, a, b, both);
      apart = from.apart;
    }

-- what both lists end with
pub before-one : (old new removed added : List Row) (i j : ℕ) → i < length old → j < length new → ((d : Row) → IsSame (get_or old i d) (get_or new j d)) → AreDifferences (take i old) (take j new) removed added → AreDifferences (take (i + 1) old) (take (j + 1) new) removed added
before-one old new removed added i j in-old in-new same is =
    record {
      counts = λ x.
          let c = is.counts x in
          let a = more_times old i x x in-old in
          let b = more_times new j x x in-new in
          let both = same-rows x (get_or old i x) (get_or new j x) (same x) in
          omega (arith, c, a, b, both);
      apart = is.apart;
    }

all-same : (old new : List Row) (i j : ℕ) (d e : Row) → i < length old → j < length new → IsSame (get_or old i d) (get_or new j e) → (x : Row) → IsSame (get_or old i x) (get_or new j x)
all-same old new i j d e in-old in-new same x =
    subst (λ (a : Row). IsSame a (get_or new j x)) (get_or_default old i d x in-old) (subst (λ (b : Row). IsSame (get_or old i d) b) (get_or_default new j e x in-new) same)

pub past-turn : (old new : List Row) (k : ℕ) (d e : Row) → k < length old → k < length new → IsSame (get_or old k d) (get_or new k e) → ((removed added : List Row) → AreDifferences (drop k old) (drop k new) removed added → AreDifferences old new removed added) → (removed added : List Row) → AreDifferences (drop (k + 1) old) (drop (k + 1) new) removed added → AreDifferences old new removed added
past-turn old new k d e in-old in-new same so-far removed added is =
    so-far removed added (past-one old new removed added k in-old in-new (all-same old new k k d e in-old in-new same) is)

pub before-turn : (old new : List Row) (i j : ℕ) (d e : Row) → 0 < i → 0 < j → i ≤ length old → j ≤ length new → IsSame (get_or old (i - 1) d) (get_or new (j - 1) e) → ((removed added : List Row) → AreDifferences (take i old) (take j new) removed added → AreDifferences old new removed added) → (removed added : List Row) → AreDifferences (take (i - 1) old) (take (j - 1) new) removed added → AreDifferences old new removed added
before-turn old new i j d e some-old some-new in-old in-new same so-far removed added is =
    let a : i - 1 < length old = omega (arith, some-old, in-old) in
    let b : j - 1 < length new = omega (arith, some-new, in-new) in
    let p : i - 1 + 1 ≡ i = omega (arith, some-old) in
    let q : j - 1 + 1 ≡ j = omega (arith, some-new) in
    let next = before-one old new removed added (i - 1) (j - 1) a b (all-same old new (i - 1) (j - 1) d e a b same) is in
    so-far removed added (subst (λ (m : ℕ). AreDifferences (take m old) (take j new) removed added) p (subst (λ (n : ℕ). AreDifferences (take (i - 1 + 1) old) (take n new) removed added) q next))
