-- A graph changed at one node is that of what is told then.
use Rattle.std.proofs.Common.{◌≡◌, ◌∙◌, ℕ, ◌+◌, ◌*◌, ◌≤◌, Bool, true, false, not, cond, List, [], ◌∷◌, ◌++◌, length, filter, refl, sym, ap, subst, arith, inl, inr, if◌then◌else◌, ◌&&◌, ◌||◌, ◌==◌, ◌⊎◌}
use Rattle.std.specs.Prelude.{nat_lt}
use Rattle.std.specs.List.{flat_map, list_any, count_by}
use Rattle.std.proofs.lemmas.Bool.{cases_eq, eq-eqb, ne_eqb, eqb-true, and_from, and_parts}
use Rattle.std.proofs.lemmas.Bool.Decides.{nat_tests}
use Rattle.std.proofs.lemmas.List.Sums.{sum_by-cons, sum_by-append}
use Rattle.std.proofs.lemmas.List.Folds.{list_any-append}
use Rattle.isis_base.specs.declared.identifiers.NodeId.{NodeId}
use Rattle.isis_base.specs.declared.identifiers.LspId.{LspId}
use Rattle.lsp_store.specs.declared.entry.Entry.{Entry}
use Rattle.lsp_store.specs.Maps.{RisesFrom}
use Rattle.spf_tree.specs.declared.row.Row.{Row}
use Rattle.spf_tree.specs.Nodes.{node_number}
use Rattle.spf_tree.specs.Walks.{start, end}
use Rattle.spf_tree.specs.Graphs.{GraphOf, AreUsable, leads, is_usable, is_overloaded, same_row, times}
use Rattle.spf_tree.proofs.UsableLemmas.{alike}
use Rattle.lsp_view.specs.Views.{rows_in, overloaded_in}
use Rattle.router_routes.specs.Moved.{told_with, HaveIds}
use Rattle.router_routes.specs.Near.{touches, rows_from, rows_to, AreEnds, near_rows, near_overloaded, IsNear}
use Rattle.router_routes.specs.Differences.{AreDifferences}
use Rattle.router_routes.proofs.NodeLemmas.{rows-by, overloaded-by}
use Rattle.router_routes.proofs.MovedLemmas.{with-at, with-beside, with-ids}
use Rattle.router_routes.proofs.GraphLemmas.{kept-times}

abbrev Pair : Type 0
Pair = LspId × Entry

abbrev any-end : ℕ → List Row → Bool
any-end n rows = list_any (λ (row : Row). end row == n) rows

-- ---- one row counted

times-cons : (row x : Row) (rows : List Row) → times (x ∷ rows) row ≡ cond (same_row row x) 1 0 + times rows row
times-cons row x rows = sum_by-cons (λ y. cond (same_row row y) 1 0) x rows

pub times-append : (row : Row) (xs ys : List Row) → times (xs ++ ys) row ≡ times xs row + times ys row
times-append row xs ys = sum_by-append (λ y. cond (same_row row y) 1 0) xs ys

same-self : (row : Row) → same_row row row ≡ true
same-self row = and_from (start row == start row) (end row == end row && row.metric == row.metric) (eq-eqb (start row) (start row) refl) (and_from (end row == end row) (row.metric == row.metric) (eq-eqb (end row) (end row) refl) (eq-eqb row.metric row.metric refl))

-- a row that passes a test is counted, and one that is counted passes it
abbrev Found : (ℕ → ℕ → ℕ → Bool) → List Row → Type 0
Found p rows = (row : Row) × (1 ≤ times rows row) × (p (start row) (end row) row.metric ≡ true)

abbrev any-row : (ℕ → ℕ → ℕ → Bool) → List Row → Bool
any-row p rows = list_any (λ (row : Row). p (start row) (end row) row.metric) rows

found-step : (p : ℕ → ℕ → ℕ → Bool) (x : Row) (rows : List Row) → (any-row p rows ≡ true → Found p rows) → (t : Bool) → p (start x) (end x) x.metric ≡ t → (t || any-row p rows) ≡ true → Found p (x ∷ rows)
found-step p x rows rest true is any = (x, (rw (times-cons x x rows, same-self x) (omega arith)), is)
found-step p x rows rest false is any = let f = rest any in let more = f.1 in (f.0, (rw (times-cons f.0 x rows) (omega (arith, more))), f.2)

found : (p : ℕ → ℕ → ℕ → Bool) (rows : List Row) → any-row p rows ≡ true → Found p rows
found p [] any = absurd (let e : false ≡ true = any in cc)
found p (x ∷ rows) any = found-step p x rows (found p rows) (p (start x) (end x) x.metric) refl any

or-right : (t : Bool) → (t || true) ≡ true
or-right true = refl
or-right false = refl

counted-step : (p : ℕ → ℕ → ℕ → Bool) (row x : Row) (rows : List Row) → (1 ≤ times rows row → any-row p rows ≡ true) → p (start row) (end row) row.metric ≡ true → (t : Bool) → same_row row x ≡ t → 1 ≤ cond t 1 0 + times rows row → (p (start x) (end x) x.metric || any-row p rows) ≡ true
counted-step p row x rows rest is true same some = ap (λ (t : Bool). t || any-row p rows) (alike p row x same ∙ is)
counted-step p row x rows rest is false same some = ap (λ (t : Bool). p (start x) (end x) x.metric || t) (rest (omega (arith, some))) ∙ or-right (p (start x) (end x) x.metric)

counted : (p : ℕ → ℕ → ℕ → Bool) (row : Row) (rows : List Row) → 1 ≤ times rows row → p (start row) (end row) row.metric ≡ true → any-row p rows ≡ true
counted p row [] some is = absurd (omega (arith, some))
counted p row (x ∷ rows) some is = counted-step p row x rows (λ more. counted p row rows more is) is (same_row row x) refl (subst (λ (n : ℕ). 1 ≤ n) (times-cons row x rows) some)

bools-same : (a b : Bool) → (a ≡ true → b ≡ true) → (b ≡ true → a ≡ true) → a ≡ b
bools-same true b f g = sym (f refl)
bools-same false true f g = g refl
bools-same false false f g = refl

leads-to : (xs ys : List Row) (from to : ℕ) → ((r : Row) → start r ≡ from → end r ≡ to → times xs r ≡ times ys r) → leads xs from to ≡ true → leads ys from to ≡ true
leads-to xs ys from to same is =
    let p : ℕ → ℕ → ℕ → Bool = λ s e m. s == from && e == to in
    let f = found p xs is in
    let parts = and_parts (start f.0 == from) (end f.0 == to) f.2 in
    let e = same f.0 (eqb-true (start f.0) from parts.0) (eqb-true (end f.0) to parts.1) in
    let some = f.1 in
    counted p f.0 ys (omega (arith, e, some)) f.2

pub leads-same : (xs ys : List Row) (from to : ℕ) → ((r : Row) → start r ≡ from → end r ≡ to → times xs r ≡ times ys r) → leads xs from to ≡ leads ys from to
leads-same xs ys from to same = bools-same (leads xs from to) (leads ys from to) (leads-to xs ys from to same) (leads-to ys xs from to (λ r a b. sym (same r a b)))

and-false : (t : Bool) → (t && false) ≡ false
and-false true = refl
and-false false = refl

or-false : (t : Bool) → (t || false) ≡ t
or-false true = refl
or-false false = refl

not-true : (t : Bool) → (t ≡ true → ⊥) → t ≡ false
not-true true h = absurd (h refl)
not-true false h = refl

own-only : (t : Bool) → ((t && true) || false) ≡ t
own-only true = refl
own-only false = refl

none-kept : (b : Bool) (z : ℕ) → (if b then z else z) ≡ z
none-kept true z = refl
none-kept false z = refl

none-or-some : (k : ℕ) → (k ≡ 0) ⊎ (1 ≤ k)
none-or-some k = grind arith

nothing-more : (k : ℕ) → k ≡ 0 + k
nothing-more k = omega arith

any-add : (t any : Bool) (k : ℕ) → any ≡ nat_lt 0 k → (t || any) ≡ nat_lt 0 (cond t 1 0 + k)
any-add true any k e = grind (arith, nat_tests)
any-add false any k e = e ∙ ap (nat_lt 0) (nothing-more k)

bit-test : (t : Bool) → nat_lt 0 (if t then 1 else 0) ≡ t
bit-test true = refl
bit-test false = refl

not-start : (s e : Bool) → (s || e) ≡ false → s ≡ false
not-start true e is = is
not-start false e is = refl

pub no-times-of : (x : Row) (rows : List Row) → length rows ≡ 0 → times rows x ≡ 0
no-times-of x [] none = refl
no-times-of x (row ∷ rows) none = absurd (omega (arith, none))

at-most : (t : Bool) (k : ℕ) → (if t then k else 0) ≤ k
at-most true k = omega arith
at-most false k = omega arith

-- of some rows, no row is more often there
pub touched-few : (n : ℕ) (rows : List Row) (row : Row) → times (filter (touches n) rows) row ≤ times rows row
touched-few n rows row = subst (λ (k : ℕ). k ≤ times rows row) (sym (kept-times (λ s e m. s == n || e == n) rows row)) (at-most (touches n row) (times rows row))

-- ---- rows that are told of other nodes stay

module _ (node : NodeId) (old here : List Pair) (rises : RisesFrom 0 old) (ids : HaveIds old) (here-ids : HaveIds here) where
  abbrev n : ℕ
  n = node_number node

  abbrev new : List Pair
  new = told_with node old here

  new-ids : HaveIds (told_with node old here)
  new-ids = with-ids node old here ids here-ids

  abbrev beside-rows : List Row → List Row
  beside-rows rows = filter (λ (row : Row). not (start row == n)) rows

  mine-same : rows_from n (rows_in here) ≡ rows_from n (rows_in new)
  mine-same = rows-by (λ m. m == n) here here-ids ∙ ap rows_in (sym (with-at node old here)) ∙ sym (rows-by (λ m. m == n) new new-ids)

  others-same : beside-rows (rows_in new) ≡ beside-rows (rows_in old)
  others-same = rows-by (λ m. not (m == n)) new new-ids ∙ ap rows_in (with-beside node old here rises ids) ∙ sym (rows-by (λ m. not (m == n)) old ids)

  from-times : (m : ℕ) (rows : List Row) (row : Row) → times (rows_from m rows) row ≡ (if start row == m then times rows row else 0)
  from-times m rows row = kept-times (λ s e k. s == m) rows row

  to-times : (m : ℕ) (rows : List Row) (row : Row) → times (rows_to m rows) row ≡ (if end row == m then times rows row else 0)
  to-times m rows row = kept-times (λ s e k. e == m) rows row

  pub apart-times : (row : Row) → (start row == n) ≡ false → times (rows_in new) row ≡ times (rows_in old) row
  apart-times row is =
      let a : times (beside-rows (rows_in new)) row ≡ (if not (start row == n) then times (rows_in new) row else 0) = kept-times (λ s e k. not (s == n)) (rows_in new) row in
      let b : times (beside-rows (rows_in old)) row ≡ (if not (start row == n) then times (rows_in old) row else 0) = kept-times (λ s e k. not (s == n)) (rows_in old) row in
      let c = ap (λ (rows : List Row). times rows row) others-same in
      let taken : (x : ℕ) → (if not (start row == n) then x else 0) ≡ x = λ x. rw is refl in
      sym (taken (times (rows_in new) row)) ∙ sym a ∙ c ∙ b ∙ taken (times (rows_in old) row)

  pub apart-over : (m : ℕ) → (m == n) ≡ false → is_overloaded (overloaded_in new) m ≡ is_overloaded (overloaded_in old) m
  apart-over m is =
      let kept : not (m == n) ≡ true = ap not is in
      overloaded-by (λ k. not (k == n)) m kept new
      ∙ ap (λ (l : List Pair). is_overloaded (overloaded_in l) m) (with-beside node old here rises ids)
      ∙ sym (overloaded-by (λ k. not (k == n)) m kept old)

  over-node : is_overloaded (overloaded_in new) n ≡ is_overloaded (overloaded_in here) n
  over-node =
      let kept : (n == n) ≡ true = eq-eqb n n refl in
      overloaded-by (λ k. k == n) n kept new
      ∙ ap (λ (l : List Pair). is_overloaded (overloaded_in l) n) (with-at node old here)
      ∙ sym (overloaded-by (λ k. k == n) n kept here)

  -- a row that doesn't touch the node may be walked as before
  pub apart-usable : (root : ℕ) (row : Row) → touches n row ≡ false → is_usable (rows_in new) (overloaded_in new) root (start row) (end row) row.metric ≡ is_usable (rows_in old) (overloaded_in old) root (start row) (end row) row.metric
  apart-usable root row apart =
      let a : (start row == n) ≡ false = grind (arith, nat_tests, apart) in
      let b : (end row == n) ≡ false = grind (arith, nat_tests, apart) in
      let back = leads-same (rows_in new) (rows_in old) (end row) (start row) (λ r is to. apart-times r (ap (λ (m : ℕ). m == n) is ∙ b)) in
      let over = apart-over (start row) a in
      ap (λ (t : Bool). not (row.metric == 16777215) && (t && (start row == root || not (is_overloaded (overloaded_in new) (start row))))) back
      ∙ ap (λ (t : Bool). not (row.metric == 16777215) && (leads (rows_in old) (end row) (start row) && (start row == root || not t))) over

  -- ---- the rows near the node

  module _ (mine : List Row) (ends : List NodeId) (is-mine : mine ≡ rows_from n (rows_in here)) (are-ends : AreEnds n mine ends) where
    abbrev near : List Row
    near = near_rows n mine ends (rows_in old)

    abbrev lead : NodeId → List Row
    lead other = rows_to n (rows_from (node_number other) (rows_in old))

    one-more-times : (c t : ℕ) → t + c * t ≡ (1 + c) * t
    one-more-times c t = grind arith

    no-more-times : (c t : ℕ) → 0 + c * t ≡ (0 + c) * t
    no-more-times c t = grind arith

    no-times : (t : Bool) (k : ℕ) → (if t then 0 else 0) * k ≡ 0
    no-times true k = omega arith
    no-times false k = omega arith

    turned : (a b : ℕ) → (a == b) ≡ (b == a)
    turned a b = grind (arith, nat_tests)

    lead-add : (to is : Bool) (t c : ℕ) → (if to then (if is then t else 0) else 0) + (if to then c else 0) * t ≡ (if to then cond is 1 0 + c else 0) * t
    lead-add true true t c = one-more-times c t
    lead-add true false t c = no-more-times c t
    lead-add false is t c = omega arith

    led-times : (row : Row) (list : List NodeId) → times (flat_map lead list) row ≡ (if end row == n then count_by (λ (other : NodeId). node_number other == start row) list else 0) * times (rows_in old) row
    led-times row [] = sym (no-times (end row == n) (times (rows_in old) row))
    led-times row (other ∷ list) =
        times-append row (lead other) (flat_map lead list)
        ∙ ap (λ (k : ℕ). k + times (flat_map lead list) row) (to-times n (rows_from (node_number other) (rows_in old)) row ∙ ap (λ (k : ℕ). if end row == n then k else 0) (from-times (node_number other) (rows_in old) row ∙ ap (λ (t : Bool). if t then times (rows_in old) row else 0) (turned (start row) (node_number other))))
        ∙ ap (λ (k : ℕ). (if end row == n then (if node_number other == start row then times (rows_in old) row else 0) else 0) + k) (led-times row list)
        ∙ lead-add (end row == n) (node_number other == start row) (times (rows_in old) row) (count_by (λ (o : NodeId). node_number o == start row) list)
        ∙ ap (λ (k : ℕ). (if end row == n then k else 0) * times (rows_in old) row) (sym (sum_by-cons (λ (o : NodeId). cond (node_number o == start row) 1 0) other list))

    abbrev sel : Row → Bool
    sel row = start row == n || (end row == n && any-end (start row) mine)

    near-add : (s e any : Bool) (here there old-times : ℕ) → (s ≡ false → there ≡ old-times) → (s ≡ true → here ≡ there) → (if s then here else 0) + (if e then (if not s && any then 1 else 0) else 0) * old-times ≡ (if s || (e && any) then there else 0)
    near-add true true any here there o f g = let e = g refl in omega (arith, e)
    near-add true false any here there o f g = let e = g refl in omega (arith, e)
    near-add false true true here there o f g = let e = f refl in omega (arith, e)
    near-add false true false here there o f g = omega arith
    near-add false false any here there o f g = omega arith

    pub near-times : (row : Row) → times near row ≡ (if sel row then times (rows_in new) row else 0)
    unfolding near_rows
    near-times row =
        times-append row mine (flat_map lead ends)
        ∙ ap (λ (k : ℕ). k + times (flat_map lead ends) row) (ap (λ (rows : List Row). times rows row) (is-mine ∙ mine-same) ∙ from-times n (rows_in new) row)
        ∙ ap (λ (k : ℕ). (if start row == n then times (rows_in new) row else 0) + k) (led-times row ends ∙ ap (λ (k : ℕ). (if end row == n then k else 0) * times (rows_in old) row) (are-ends (start row)))
        ∙ near-add (start row == n) (end row == n) (any-end (start row) mine) (times (rows_in new) row) (times (rows_in new) row) (times (rows_in old) row) (λ is. apart-times row is) (λ is. refl)

    -- ---- overloaded nodes among them

    any-count : (m : ℕ) (list : List NodeId) → list_any (λ (o : NodeId). node_number o == m) list ≡ nat_lt 0 (count_by (λ (o : NodeId). node_number o == m) list)
    any-count m [] = refl
    any-count m (other ∷ list) = any-add (node_number other == m) (list_any (λ (o : NodeId). node_number o == m) list) (count_by (λ (o : NodeId). node_number o == m) list) (any-count m list) ∙ ap (nat_lt 0) (sym (sum_by-cons (λ (o : NodeId). cond (node_number o == m) 1 0) other list))

    ends-has : (m : ℕ) → list_any (λ (o : NodeId). node_number o == m) ends ≡ (not (m == n) && any-end m mine)
    ends-has m = any-count m ends ∙ ap (nat_lt 0) (are-ends m) ∙ bit-test (not (m == n) && any-end m mine)

    abbrev nodes : List NodeId
    nodes = near_overloaded node (is_overloaded (overloaded_in here) n) ends (overloaded_in old)

    over-step : (m : ℕ) (other : NodeId) (list : List NodeId) → list_any (λ (o : NodeId). node_number o == m) (filter (λ (o : NodeId). is_overloaded (overloaded_in old) (node_number o)) list) ≡ (list_any (λ (o : NodeId). node_number o == m) list && is_overloaded (overloaded_in old) m)
        → (t u : Bool) → is_overloaded (overloaded_in old) (node_number other) ≡ t → (node_number other == m) ≡ u
        → list_any (λ (o : NodeId). node_number o == m) (filter (λ (o : NodeId). is_overloaded (overloaded_in old) (node_number o)) (other ∷ list)) ≡ (list_any (λ (o : NodeId). node_number o == m) (other ∷ list) && is_overloaded (overloaded_in old) m)
    over-step m other list rest true true is same =
        let over : is_overloaded (overloaded_in old) m ≡ true = ap (is_overloaded (overloaded_in old)) (sym (eqb-true (node_number other) m same)) ∙ is in
        rw (is, same, over) refl
    over-step m other list rest true false is same = rw (is, same) rest
    over-step m other list rest false true is same =
        let over : is_overloaded (overloaded_in old) m ≡ false = ap (is_overloaded (overloaded_in old)) (sym (eqb-true (node_number other) m same)) ∙ is in
        rw (is, same) (rest ∙ ap (λ (t : Bool). list_any (λ (o : NodeId). node_number o == m) list && t) over ∙ and-false (list_any (λ (o : NodeId). node_number o == m) list) ∙ sym over)
    over-step m other list rest false false is same = rw (is, same) rest

    over-filter : (m : ℕ) (list : List NodeId) → list_any (λ (o : NodeId). node_number o == m) (filter (λ (o : NodeId). is_overloaded (overloaded_in old) (node_number o)) list) ≡ (list_any (λ (o : NodeId). node_number o == m) list && is_overloaded (overloaded_in old) m)
    over-filter m [] = refl
    over-filter m (other ∷ list) = over-step m other list (over-filter m list) (is_overloaded (overloaded_in old) (node_number other)) (node_number other == m) refl refl

    over-own : (m : ℕ) (t : Bool) → list_any (λ (o : NodeId). node_number o == m) (if t then node ∷ [] else []) ≡ (t && (n == m))
    over-own m true = or-false (n == m)
    over-own m false = refl

    near-over : (m : ℕ) → is_overloaded nodes m ≡ ((is_overloaded (overloaded_in here) n && (n == m)) || ((not (m == n) && any-end m mine) && is_overloaded (overloaded_in old) m))
    unfolding near_overloaded
    near-over m =
        list_any-append (λ (o : NodeId). node_number o == m) (if is_overloaded (overloaded_in here) n then node ∷ [] else []) (filter (λ (o : NodeId). is_overloaded (overloaded_in old) (node_number o)) ends)
        ∙ ap (λ (t : Bool). t || list_any (λ (o : NodeId). node_number o == m) (filter (λ (o : NodeId). is_overloaded (overloaded_in old) (node_number o)) ends)) (over-own m (is_overloaded (overloaded_in here) n))
        ∙ ap (λ (t : Bool). (is_overloaded (overloaded_in here) n && (n == m)) || t) (over-filter m ends ∙ ap (λ (t : Bool). t && is_overloaded (overloaded_in old) m) (ends-has m))

    over-at-node : is_overloaded nodes n ≡ is_overloaded (overloaded_in new) n
    over-at-node =
        near-over n ∙ ap (λ (t : Bool). (is_overloaded (overloaded_in here) n && t) || ((not t && any-end n mine) && is_overloaded (overloaded_in old) n)) (eq-eqb n n refl)
        ∙ own-only (is_overloaded (overloaded_in here) n) ∙ sym over-node

    over-at-end : (m : ℕ) → (m == n) ≡ false → any-end m mine ≡ true → is_overloaded nodes m ≡ is_overloaded (overloaded_in new) m
    over-at-end m apart any =
        near-over m ∙ ap (λ (t : Bool). (is_overloaded (overloaded_in here) n && t) || ((not (m == n) && any-end m mine) && is_overloaded (overloaded_in old) m)) (turned n m ∙ apart)
        ∙ ap (λ (t : Bool). (is_overloaded (overloaded_in here) n && false) || ((not t && any-end m mine) && is_overloaded (overloaded_in old) m)) apart
        ∙ ap (λ (t : Bool). (is_overloaded (overloaded_in here) n && false) || (t && is_overloaded (overloaded_in old) m)) any
        ∙ ap (λ (t : Bool). t || is_overloaded (overloaded_in old) m) (and-false (is_overloaded (overloaded_in here) n)) ∙ sym (apart-over m apart)

    -- ---- which of them may be walked

    abbrev near-usable : ℕ → Row → Bool
    near-usable root row = is_usable near nodes root (start row) (end row) row.metric

    abbrev new-usable : ℕ → Row → Bool
    new-usable root row = is_usable (rows_in new) (overloaded_in new) root (start row) (end row) row.metric

    usable-same : (root : ℕ) (row : Row) → leads near (end row) (start row) ≡ leads (rows_in new) (end row) (start row) → is_overloaded nodes (start row) ≡ is_overloaded (overloaded_in new) (start row) → near-usable root row ≡ new-usable root row
    usable-same root row back over =
        ap (λ (t : Bool). not (row.metric == 16777215) && (t && (start row == root || not (is_overloaded nodes (start row))))) back
        ∙ ap (λ (t : Bool). not (row.metric == 16777215) && (leads (rows_in new) (end row) (start row) && (start row == root || not t))) over

    sel-own : (row : Row) → start row ≡ n → sel row ≡ true
    sel-own row is = ap (λ (t : Bool). t || (end row == n && any-end (start row) mine)) (eq-eqb (start row) n is)

    sel-times : (row : Row) → sel row ≡ true → times near row ≡ times (rows_in new) row
    sel-times row is = near-times row ∙ ap (λ (t : Bool). if t then times (rows_in new) row else 0) is

    mine-times : (row : Row) → start row ≡ n → times mine row ≡ times (rows_in new) row
    mine-times row is = ap (λ (rows : List Row). times rows row) (is-mine ∙ mine-same) ∙ from-times n (rows_in new) row ∙ ap (λ (t : Bool). if t then times (rows_in new) row else 0) (eq-eqb (start row) n is)

    abbrev Goal : ℕ → Row → Type 0
    Goal root row = (if near-usable root row then times near row else 0) ≡ (if touches n row && new-usable root row then times (rows_in new) row else 0)

    -- of a row that starts at the node
    own-row : (root : ℕ) (row : Row) → start row ≡ n → Goal root row
    own-row root row is =
        let touched : touches n row ≡ true = ap (λ (t : Bool). t || (end row == n)) (eq-eqb (start row) n is) in
        let same = sel-times row (sel-own row is) in
        elim (none-or-some (times (rows_in new) row)) [
          | inl none ↦
              ap (λ (k : ℕ). if near-usable root row then k else 0) (same ∙ none) ∙ none-kept (near-usable root row) 0
              ∙ sym (ap (λ (k : ℕ). if touches n row && new-usable root row then k else 0) none ∙ none-kept (touches n row && new-usable root row) 0)
          | inr some ↦
              let mine-some = mine-times row is in
              let any : any-end (end row) mine ≡ true = counted (λ s e m. e == end row) row mine (omega (arith, mine-some, some)) (eq-eqb (end row) (end row) refl) in
              let back =
              leads-same near (rows_in new) (end row) (start row) (λ r from to.
              sel-times r (ap (λ (m : ℕ). start r == n || (end r == n && any-end m mine)) from ∙ ap (λ (t : Bool). start r == n || (end r == n && t)) any ∙ ap (λ (t : Bool). start r == n || (t && true)) (eq-eqb (end r) n (to ∙ is)) ∙ or-right (start r == n))) in
              let over = subst (λ (m : ℕ). is_overloaded nodes m ≡ is_overloaded (overloaded_in new) m) (sym is) over-at-node in
              ap (λ (t : Bool). if t then times near row else 0) (usable-same root row back over)
              ∙ ap (λ (k : ℕ). if new-usable root row then k else 0) same
              ∙ sym (ap (λ (t : Bool). if t && new-usable root row then times (rows_in new) row else 0) touched)
        ]

    -- of a row that ends there
    end-row : (root : ℕ) (row : Row) → (start row == n) ≡ false → end row ≡ n → (w : Bool) → any-end (start row) mine ≡ w → Goal root row
    end-row root row apart is true any =
        let touched : touches n row ≡ true = ap (λ (t : Bool). start row == n || t) (eq-eqb (end row) n is) ∙ or-right (start row == n) in
        let chosen : sel row ≡ true = ap (λ (t : Bool). start row == n || (end row == n && t)) any ∙ ap (λ (t : Bool). start row == n || (t && true)) (eq-eqb (end row) n is) ∙ or-right (start row == n) in
        let back = leads-same near (rows_in new) (end row) (start row) (λ r from to. sel-times r (sel-own r (from ∙ is))) in
        ap (λ (t : Bool). if t then times near row else 0) (usable-same root row back (over-at-end (start row) apart any))
        ∙ ap (λ (k : ℕ). if new-usable root row then k else 0) (sel-times row chosen)
        ∙ sym (ap (λ (t : Bool). if t && new-usable root row then times (rows_in new) row else 0) touched)
    end-row root row apart is false any =
        let left : sel row ≡ false = ap (λ (t : Bool). start row == n || (end row == n && t)) any ∙ ap (λ (t : Bool). t || (end row == n && false)) apart ∙ and-false (end row == n) in
        let none : times near row ≡ 0 = near-times row ∙ ap (λ (t : Bool). if t then times (rows_in new) row else 0) left in
        let back : leads (rows_in new) (end row) (start row) ≡ false = not-true (leads (rows_in new) (end row) (start row)) (λ yes'.
        let f = found (λ s e m. s == end row && e == start row) (rows_in new) yes' in
        let parts = and_parts (start f.0 == end row) (end f.0 == start row) f.2 in
        let here' = mine-times f.0 (eqb-true (start f.0) (end row) parts.0 ∙ is) in
        let some = f.1 in
        let has : any-end (start row) mine ≡ true = counted (λ s e m. e == start row) f.0 mine (omega (arith, here', some)) parts.1 in
        (let e : true ≡ false = sym has ∙ any in cc)) in
        let not-usable : (touches n row && new-usable root row) ≡ false =
        ap (λ (t : Bool). touches n row && (not (row.metric == 16777215) && (t && (start row == root || not (is_overloaded (overloaded_in new) (start row)))))) back
        ∙ ap (λ (t : Bool). touches n row && t) (and-false (not (row.metric == 16777215))) ∙ and-false (touches n row) in
        ap (λ (k : ℕ). if near-usable root row then k else 0) none ∙ none-kept (near-usable root row) 0
        ∙ sym (ap (λ (t : Bool). if t then times (rows_in new) row else 0) not-usable)

    far-row : (root : ℕ) (row : Row) → (start row == n) ≡ false → (end row == n) ≡ false → Goal root row
    far-row root row a b =
        let left : sel row ≡ false = ap (λ (t : Bool). start row == n || (t && any-end (start row) mine)) b ∙ ap (λ (t : Bool). t || false) a in
        let none : times near row ≡ 0 = near-times row ∙ ap (λ (t : Bool). if t then times (rows_in new) row else 0) left in
        let apart : (touches n row && new-usable root row) ≡ false = ap (λ (t : Bool). (start row == n || t) && new-usable root row) b ∙ ap (λ (t : Bool). (t || false) && new-usable root row) a in
        ap (λ (k : ℕ). if near-usable root row then k else 0) none ∙ none-kept (near-usable root row) 0
        ∙ sym (ap (λ (t : Bool). if t then times (rows_in new) row else 0) apart)

    near-row : (root : ℕ) (row : Row) → Goal root row
    near-row root row =
        elim (cases_eq (start row) n) [
          | inl from ↦ own-row root row from
          | inr apart ↦
              elim (cases_eq (end row) n) [
                | inl to ↦ end-row root row (ne_eqb (start row) n apart) to (any-end (start row) mine) refl
                | inr past ↦ far-row root row (ne_eqb (start row) n apart) (ne_eqb (end row) n past)
              ]
        ]

    pub near-graph : (root : NodeId) (graph : GraphOf) → AreUsable near nodes root graph → IsNear new root node graph
    near-graph root graph is = λ row. is.rows_are row ∙ near-row (node_number root) row

  -- ---- a graph changed by the differences

  touched-times : (rows : List Row) (row : Row) → times (filter (touches n) rows) row ≡ (if touches n row then times rows row else 0)
  touched-times rows row = kept-times (λ s e m. s == n || e == n) rows row

  changed-by : (touched here-times near-times' old-times next removed added old-kept new-kept : ℕ) (t u v : Bool) → old-kept ≡ (if t then old-times else 0) → near-times' ≡ (if t && u then new-kept else 0) → old-kept + added ≡ near-times' + removed → next + removed ≡ old-times + added
      → old-times ≡ (if v then here-times else 0) → (t ≡ false → u ≡ v) → (t ≡ false → new-kept ≡ here-times) → next ≡ (if u then new-kept else 0)
  changed-by touched here-times near-times' old-times next removed added old-kept new-kept true u v a b c d e f g = omega (arith, a, b, c, d)
  changed-by touched here-times near-times' old-times next removed added old-kept new-kept false u v a b c d e f g =
      let same : next ≡ old-times = omega (arith, a, b, c, d) in
      same ∙ e ∙ ap (λ (w : Bool). if w then here-times else 0) (sym (f refl)) ∙ ap (λ (k : ℕ). if u then k else 0) (sym (g refl))

  pub changed-graph : (root : NodeId) (before next near' : GraphOf) (removed added : List Row) → AreUsable (rows_in old) (overloaded_in old) root before → IsNear new root node near' → AreDifferences (filter (touches n) before.rows) near'.rows removed added
      → ((x : Row) → times next.rows x + times removed x ≡ times before.rows x + times added x) → next.root ≡ root → AreUsable (rows_in new) (overloaded_in new) root next
  changed-graph root before next near' removed added is near-is apart change at-root = record {
    from = at-root;
    rows_are = λ row.
        changed-by 0 (times (rows_in old) row) (times near'.rows row) (times before.rows row) (times next.rows row) (times removed row) (times added row) (times (filter (touches n) before.rows) row) (times (rows_in new) row)
        (touches n row) (is_usable (rows_in new) (overloaded_in new) (node_number root) (start row) (end row) row.metric) (is_usable (rows_in old) (overloaded_in old) (node_number root) (start row) (end row) row.metric)
        (touched-times before.rows row) (near-is row) (apart.counts row) (change row) (is.rows_are row) (apart-usable (node_number root) row)
        (λ far. apart-times row (not-start (start row == n) (end row == n) far));
  }

-- the rows of a graph that touch a node are those of a graph near it, each as often
pub near-touched : (node : NodeId) (told : List Pair) (root : NodeId) (graph near' : GraphOf) → AreUsable (rows_in told) (overloaded_in told) root graph → IsNear told root node near' → (x : Row) → times near'.rows x ≡ times (filter (touches (node_number node)) graph.rows) x
near-touched node told root graph near' is near-is x =
    near-is x
    ∙ both (touches (node_number node) x) (is_usable (rows_in told) (overloaded_in told) (node_number root) (start x) (end x) x.metric) (times (rows_in told) x)
    ∙ ap (λ (k : ℕ). if touches (node_number node) x then k else 0) (sym (is.rows_are x))
    ∙ sym (kept-times (λ s e m. s == node_number node || e == node_number node) graph.rows x)
  where
    both : (t u : Bool) (k : ℕ) → (if t && u then k else 0) ≡ (if t then (if u then k else 0) else 0)
    both true u k = refl
    both false u k = refl
