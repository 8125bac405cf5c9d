-- The plain program of costs tells the least ones.
use Rattle.std.proofs.Common.{◌≡◌, ◌∙◌, ℕ, zero, suc, ◌+◌, ◌≤◌, ◌<◌, Bool, true, false, List, [], ◌∷◌, length, Option, Some, None, refl, sym, ap, subst, arith, ◌⊎◌, inl, inr, ◌==◌, nat_lt, if◌then◌else◌}
use Rattle.std.specs.Prelude.{is_some}
use Rattle.std.specs.Option.{option_map}
use Rattle.std.specs.List.{Contains}
use Rattle.std.proofs.lemmas.Bool.{cases_eq, eq-eqb, ne_eqb, ltb-true, ltb-false}
use Rattle.spf_tree.specs.declared.row.Row.{Row}
use Rattle.spf_tree.specs.Walks.{start, end, IsWalk, cost, IsWithin, AreLeast}
use Rattle.spf_tree.specs.Distances.{cost_at}
use Rattle.spf_tree.proofs.SearchLemmas.{contains_first, contains_rest, contains_cases, contains_none, some_same}
use Rattle.router_routes.specs.Costs.{offer_of, lesser, least_offer, settled_by, settle, cost_of}

-- each settled node has a walk of its cost, which is the least; the root is settled
record IsSettled (rows : List Row) (root : ℕ) (settled : List (ℕ × ℕ)) : Type 0 where
  pub walk : (node c : ℕ) → cost_at settled node ≡ Some c → (w : List Row) × IsWalk rows root w node × (cost w ≡ c)
  pub least : (node c : ℕ) → cost_at settled node ≡ Some c → (w : List Row) → IsWalk rows root w node → c ≤ cost w
  pub zero : cost_at settled root ≡ Some 0

none-some : {A : Type 0} (x : A) → ◌≡◌ {A = Option A} None (Some x) → ⊥
none-some x e = cc

-- ---- what one row offers

abbrev IsOffer : List (ℕ × ℕ) → Row → ℕ × ℕ → Type 0
IsOffer settled row o = (cost_at settled (end row) ≡ None) × (s : ℕ) × (cost_at settled (start row) ≡ Some s) × (s + row.metric ≡ o.0) × (end row ≡ o.1)

offer-by : (e s : Option ℕ) (m n : ℕ) (o : ℕ × ℕ) → (if is_some e then None else option_map (λ cost. (cost + m, n)) s) ≡ Some o → (e ≡ None) × (t : ℕ) × (s ≡ Some t) × (t + m ≡ o.0) × (n ≡ o.1)
offer-by (Some x) s m n o e = absurd (none-some o e)
offer-by None None m n o e = absurd (none-some o e)
offer-by None (Some t) m n o e =
    let same : ◌≡◌ {A = ℕ × ℕ} (t + m, n) o = some-value e in
    (refl, t, refl, ap (λ (p : ℕ × ℕ). p.0) same, ap (λ (p : ℕ × ℕ). p.1) same)
  where
    some-value : {A : Type 0} {x y : A} → ◌≡◌ {A = Option A} (Some x) (Some y) → x ≡ y
    some-value e = cc

is-offer : (settled : List (ℕ × ℕ)) (row : Row) (o : ℕ × ℕ) → offer_of settled row ≡ Some o → IsOffer settled row o
is-offer settled row o e = offer-by (cost_at settled (end row)) (cost_at settled (start row)) row.metric (end row) o e

offer-is : (settled : List (ℕ × ℕ)) (row : Row) (s : ℕ) → cost_at settled (end row) ≡ None → cost_at settled (start row) ≡ Some s → offer_of settled row ≡ Some (s + row.metric, end row)
offer-is settled row s none some = rw (none, some) refl

-- ---- the least offer

lesser-of : (a b : Option (ℕ × ℕ)) (o : ℕ × ℕ) → lesser a b ≡ Some o → (a ≡ Some o) ⊎ (b ≡ Some o)
lesser-of None b o e = inr e
lesser-of (Some x) None o e = inl e
lesser-of (Some x) (Some y) o e = by-test (nat_lt y.0 x.0) e
  where
    by-test : (t : Bool) → (if t then Some y else Some x) ≡ Some o → (Some x ≡ Some o) ⊎ (Some y ≡ Some o)
    by-test true e = inr e
    by-test false e = inl e

lesser-first : (x : ℕ × ℕ) (b : Option (ℕ × ℕ)) → (o : ℕ × ℕ) × (lesser (Some x) b ≡ Some o) × (o.0 ≤ x.0)
lesser-first x None = (x, refl, omega arith)
lesser-first x (Some y) = by-test (nat_lt y.0 x.0) refl
  where
    by-test : (t : Bool) → nat_lt y.0 x.0 ≡ t → (o : ℕ × ℕ) × (lesser (Some x) (Some y) ≡ Some o) × (o.0 ≤ x.0)
    by-test true is = let less = ltb-true y.0 x.0 is in (y, rw is refl, omega (arith, less))
    by-test false is = (x, rw is refl, omega arith)

lesser-second : (a : Option (ℕ × ℕ)) (y : ℕ × ℕ) → (o : ℕ × ℕ) × (lesser a (Some y) ≡ Some o) × (o.0 ≤ y.0)
lesser-second None y = (y, refl, omega arith)
lesser-second (Some x) y = by-test (nat_lt y.0 x.0) refl
  where
    by-test : (t : Bool) → nat_lt y.0 x.0 ≡ t → (o : ℕ × ℕ) × (lesser (Some x) (Some y) ≡ Some o) × (o.0 ≤ y.0)
    by-test true is = (y, rw is refl, omega arith)
    by-test false is = let no-less = ltb-false y.0 x.0 is in (x, rw is refl, omega (arith, no-less))

offered : (settled : List (ℕ × ℕ)) (rows : List Row) (o : ℕ × ℕ) → least_offer settled rows ≡ Some o → (row : Row) × Contains rows row × IsOffer settled row o
offered settled [] o e = absurd (none-some o e)
offered settled (row ∷ rows) o e =
    elim (lesser-of (offer_of settled row) (least_offer settled rows) o e) [
      | inl here ↦ (row, contains_first row rows, is-offer settled row o here)
      | inr there ↦ let r = offered settled rows o there in (r.0, contains_rest row r.0 rows r.1, r.2)
    ]

-- it is no more than any offer
no-more : (settled : List (ℕ × ℕ)) (rows : List Row) (row : Row) (p : ℕ × ℕ) → Contains rows row → offer_of settled row ≡ Some p → (o : ℕ × ℕ) × (least_offer settled rows ≡ Some o) × (o.0 ≤ p.0)
no-more settled [] row p h e = absurd (contains_none row h)
no-more settled (x ∷ rows) row p h e =
    elim (contains_cases x row rows h) [
      | inl is ↦
          let here : offer_of settled x ≡ Some p = ap (offer_of settled) is ∙ e in
          subst (λ (a : Option (ℕ × ℕ)). (o : ℕ × ℕ) × (lesser a (least_offer settled rows) ≡ Some o) × (o.0 ≤ p.0)) (sym here) (lesser-first p (least_offer settled rows))
      | inr there ↦
          let r = no-more settled rows row p there e in
          let s = lesser-second (offer_of settled x) r.0 in
          let less = r.2 in
          let less-still = s.2 in
          (s.0, subst (λ (b : Option (ℕ × ℕ)). lesser (offer_of settled x) b ≡ Some s.0) (sym r.1) s.1, omega (arith, less, less-still))
    ]

-- ---- a walk to a node that isn't settled costs what some offer does, or more

some-or-none : (o : Option ℕ) → (o ≡ None) ⊎ ((c : ℕ) × (o ≡ Some c))
some-or-none None = inl refl
some-or-none (Some c) = inr (c, refl)

crossing : (rows : List Row) (root : ℕ) (settled : List (ℕ × ℕ)) (Q : ℕ → Type 0) → IsSettled rows root settled → ((a b : ℕ) → a ≤ b → Q a → Q b) → ((row : Row) (p : ℕ × ℕ) → Contains rows row → offer_of settled row ≡ Some p → Q p.0) → (w : List Row) (node : ℕ) → IsWalk rows root w node → cost_at settled node ≡ None → Q (cost w)
crossing rows root settled Q is up offers [] node w none = absurd (none-some 0 (sym (sym is.zero ∙ ap (cost_at settled) (sym w) ∙ none)))
crossing rows root settled Q is up offers (row ∷ walk) node w none =
    elim (some-or-none (cost_at settled (start row))) [
      | inl none-too ↦ up (cost walk) (row.metric + cost walk) (omega arith) (crossing rows root settled Q is up offers walk (start row) w.3 none-too)
      | inr some ↦
          let less = is.least (start row) some.0 some.1 walk w.3 in
          up (some.0 + row.metric) (row.metric + cost walk) (omega (arith, less))
          (offers row (some.0 + row.metric, end row) w.0 (offer-is settled row some.0 (ap (cost_at settled) w.1 ∙ none) some.1))
    ]

-- ---- a step

settled-more : (rows : List Row) (root : ℕ) (settled : List (ℕ × ℕ)) (o : ℕ × ℕ) → IsSettled rows root settled → least_offer settled rows ≡ Some o → IsSettled rows root ((o.1, o.0) ∷ settled)
settled-more rows root settled o is e =
    let from = offered settled rows o e in
    let row = from.0 in
    let offer = from.2 in
    let none : cost_at settled o.1 ≡ None = ap (cost_at settled) (sym offer.4) ∙ offer.0 in
    let not-root : (o.1 ≡ root → ⊥) = λ h. none-some 0 (sym none ∙ ap (cost_at settled) h ∙ is.zero) in
    let before = is.walk (start row) offer.1 offer.2 in
    let cheap : (w : List Row) (node : ℕ) → IsWalk rows root w node → cost_at settled node ≡ None → o.0 ≤ cost w =
    crossing rows root settled (λ (n : ℕ). o.0 ≤ n) is (λ a b le h. omega arith)
    (λ r p h of-r. let m = no-more settled rows r p h of-r in let same : m.0 ≡ o = some-pair m.0 o (least_offer settled rows) m.1 e in let le = m.2 in subst (λ (q : ℕ × ℕ). q.0 ≤ p.0) same le) in
    record {
      walk = λ node c h.
          elim (cases_eq o.1 node) [
            | inl here ↦
                let is-c : o.0 ≡ c = some_same c o.0 (Some o.0) (sym (rw (eq-eqb o.1 node here) refl) ∙ h) refl in
                let cost-is = before.2 in
                let sum = offer.3 in
                (row ∷ before.0, (from.1, offer.4 ∙ here, (λ r. not-root (here ∙ r)), before.1), omega (arith, is-c, cost-is, sum))
            | inr other ↦ is.walk node c (sym (rw (ne_eqb o.1 node other) refl) ∙ h)
          ];
      least = λ node c h w of-w.
          elim (cases_eq o.1 node) [
            | inl here ↦
                let is-c : o.0 ≡ c = some_same c o.0 (Some o.0) (sym (rw (eq-eqb o.1 node here) refl) ∙ h) refl in
                let le = cheap w node of-w (ap (cost_at settled) (sym here) ∙ none) in
                omega (arith, is-c, le)
            | inr other ↦ is.least node c (sym (rw (ne_eqb o.1 node other) refl) ∙ h) w of-w
          ];
      zero = rw (ne_eqb o.1 root not-root) is.zero;
    }
  where
    some-pair : (a b : ℕ × ℕ) (x : Option (ℕ × ℕ)) → x ≡ Some a → x ≡ Some b → a ≡ b
    some-pair a b x p q = cc

-- ---- the rows whose ends aren't settled

abbrev open-one : Option ℕ → ℕ
open-one None = 1
open-one (Some c) = 0

abbrev open-rows : List (ℕ × ℕ) → List Row → ℕ
open-rows settled [] = 0
open-rows settled (row ∷ rows) = open-one (cost_at settled (end row)) + open-rows settled rows

one-most : (o : Option ℕ) → open-one o ≤ 1
one-most None = omega arith
one-most (Some c) = omega arith

open-most : (settled : List (ℕ × ℕ)) (rows : List Row) → open-rows settled rows ≤ length rows
open-most settled [] = omega arith
open-most settled (row ∷ rows) = let one = one-most (cost_at settled (end row)) in let rest = open-most settled rows in omega (arith, one, rest)

one-falls : (t : Bool) (c : ℕ) (o : Option ℕ) → open-one (if t then Some c else o) ≤ open-one o
one-falls true c None = omega arith
one-falls true c (Some d) = omega arith
one-falls false c o = omega arith

open-less : (n c : ℕ) (settled : List (ℕ × ℕ)) (rows : List Row) → open-rows ((n, c) ∷ settled) rows ≤ open-rows settled rows
open-less n c settled [] = omega arith
open-less n c settled (row ∷ rows) = let one = one-falls (n == end row) c (cost_at settled (end row)) in let rest = open-less n c settled rows in omega (arith, one, rest)

open-falls : (n c : ℕ) (settled : List (ℕ × ℕ)) (rows : List Row) (row : Row) → Contains rows row → end row ≡ n → cost_at settled n ≡ None → open-rows ((n, c) ∷ settled) rows < open-rows settled rows
open-falls n c settled [] row h is none = absurd (contains_none row h)
open-falls n c settled (x ∷ rows) row h is none =
    elim (contains_cases x row rows h) [
      | inl same ↦
          let at-end : n ≡ end x = sym (ap end same ∙ is) in
          let old : open-one (cost_at settled (end x)) ≡ 1 = ap open-one (ap (cost_at settled) (sym at-end) ∙ none) in
          let new : open-one (cost_at ((n, c) ∷ settled) (end x)) ≡ 0 = rw (eq-eqb n (end x) at-end) refl in
          let rest = open-less n c settled rows in
          omega (arith, old, new, rest)
      | inr there ↦
          let one = one-falls (n == end x) c (cost_at settled (end x)) in
          let rest = open-falls n c settled rows row there is none in
          omega (arith, one, rest)
    ]

one-none : (o : Option ℕ) → o ≡ None → 0 < open-one o
one-none o e = rw e (omega arith)

open-some : (settled : List (ℕ × ℕ)) (rows : List Row) (row : Row) → Contains rows row → cost_at settled (end row) ≡ None → 0 < open-rows settled rows
open-some settled [] row h none = absurd (contains_none row h)
open-some settled (x ∷ rows) row h none =
    elim (contains_cases x row rows h) [
      | inl same ↦ let one = one-none (cost_at settled (end x)) (ap (λ (r : Row). cost_at settled (end r)) same ∙ none) in omega (arith, one)
      | inr there ↦ let rest = open-some settled rows row there none in omega (arith, rest)
    ]

-- ---- the end: nothing is offered

abbrev HasNoOffer : List Row → List (ℕ × ℕ) → Type 0
HasNoOffer rows settled = (row : Row) (p : ℕ × ℕ) → Contains rows row → offer_of settled row ≡ Some p → ⊥

pair-or-none : (o : Option (ℕ × ℕ)) → (o ≡ None) ⊎ ((p : ℕ × ℕ) × (o ≡ Some p))
pair-or-none None = inl refl
pair-or-none (Some p) = inr (p, refl)

settle-stays : (n : ℕ) (rows : List Row) (settled : List (ℕ × ℕ)) → least_offer settled rows ≡ None → settle n rows settled ≡ settled
settle-stays zero rows settled none = refl
settle-stays (suc n) rows settled none = ap (λ (o : Option (ℕ × ℕ)). settle n rows (settled_by o settled)) none ∙ settle-stays n rows settled none

none-offers : (rows : List Row) (settled : List (ℕ × ℕ)) → least_offer settled rows ≡ None → HasNoOffer rows settled
none-offers rows settled none row p h of-row = let m = no-more settled rows row p h of-row in none-some m.0 (sym none ∙ m.1)

abbrev IsEnd : List Row → ℕ → List (ℕ × ℕ) → Type 0
IsEnd rows root settled = IsSettled rows root settled × HasNoOffer rows settled

settle-ends : (n : ℕ) (rows : List Row) (root : ℕ) (settled : List (ℕ × ℕ)) → IsSettled rows root settled → open-rows settled rows ≤ n → IsEnd rows root (settle n rows settled)
settle-ends zero rows root settled is few =
    (is, (λ row p h of-row. let o = is-offer settled row p of-row in let some = open-some settled rows row h o.0 in absurd (omega (arith, some, few))))
settle-ends (suc n) rows root settled is few =
    elim (pair-or-none (least_offer settled rows)) [
      | inl none ↦ subst (λ (s : List (ℕ × ℕ)). IsEnd rows root s) (sym (settle-stays (suc n) rows settled none)) (is, none-offers rows settled none)
      | inr some ↦
          let o = some.0 in
          let from = offered settled rows o some.1 in
          let falls = open-falls o.1 o.0 settled rows from.0 from.1 from.2.4 (ap (cost_at settled) (sym from.2.4) ∙ from.2.0) in
          subst (λ (x : Option (ℕ × ℕ)). IsEnd rows root (settle n rows (settled_by x settled))) (sym some.1)
          (settle-ends n rows root ((o.1, o.0) ∷ settled) (settled-more rows root settled o is some.1) (omega (arith, falls, few)))
    ]

begins : (rows : List Row) (root : ℕ) → IsSettled rows root ((root, 0) ∷ [])
begins rows root = record {
  walk = λ node c h.
      elim (cases_eq root node) [
        | inl is ↦ let zero-is : 0 ≡ c = some_same c 0 (Some 0) (sym (rw (eq-eqb root node is) refl) ∙ h) refl in ([], sym is, zero-is)
        | inr other ↦ absurd (none-some c (sym (rw (ne_eqb root node other) refl) ∙ h))
      ];
  least = λ node c h w of-w.
      elim (cases_eq root node) [
        | inl is ↦ let zero-is : 0 ≡ c = some_same c 0 (Some 0) (sym (rw (eq-eqb root node is) refl) ∙ h) refl in omega (arith, zero-is)
        | inr other ↦ absurd (none-some c (sym (rw (ne_eqb root node other) refl) ∙ h))
      ];
  zero = rw (eq-eqb root root refl) refl;
}

within : (rows : List Row) (root : ℕ) (settled : List (ℕ × ℕ)) → IsEnd rows root settled → (w : List Row) (node : ℕ) → IsWalk rows root w node → IsWithin (cost_at settled node) (cost w)
within rows root settled is w node of-w =
    elim (some-or-none (cost_at settled node)) [
      | inl none ↦ absurd (crossing rows root settled (λ (n : ℕ). ⊥) is.0 (λ a b le h. h) is.1 w node of-w none)
      | inr some ↦ subst (λ (o : Option ℕ). IsWithin o (cost w)) (sym some.1) (is.0.least node some.0 some.1 w of-w)
    ]

pub costs-least : (rows : List Row) (root : ℕ) → AreLeast rows root (cost_of rows root)
unfolding cost_of
costs-least rows root =
    let end-is : IsEnd rows root (settle (length rows) rows ((root, 0) ∷ [])) = settle-ends (length rows) rows root ((root, 0) ∷ []) (begins rows root) (open-most ((root, 0) ∷ []) rows) in
    record {
      walk = end-is.0.walk;
      least = λ w node of-w. within rows root (settle (length rows) rows ((root, 0) ∷ [])) end-is w node of-w;
    }
