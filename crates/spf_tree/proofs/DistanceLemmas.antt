-- Distances as the reached part of labels, that rows have one list of them, and that they leave room for a metric.

use Rattle.std.proofs.Common.{◌≡◌, ◌≢◌, ◌∙◌, ℕ, zero, suc, ◌+◌, ◌<◌, ◌≤◌, ◌==◌, if◌then◌else◌, List, [], ◌∷◌, length, map, get_or, Option, Some, None, refl, sym, ap, subst, arith, ◌⊎◌, inl, inr}
use Rattle.std.specs.List.Sorted.{IsStrictlyIncreasing}
use Rattle.std.proofs.lemmas.Bool.{cases_eq, cases_lt, eq-eqb, ne_eqb}
use Rattle.spf_tree.specs.declared.row.Row.{Row}
use Rattle.spf_tree.specs.declared.label.Label.{Label}
use Rattle.spf_tree.specs.Labels.{at, IsRising}
use Rattle.spf_tree.specs.Walks.{cost, IsWithin, AreLeast}
use Rattle.spf_tree.specs.Distances.{cost_at, AreDistances, AreSmall, reached_of, reached}
use Rattle.spf_tree.specs.Search.{IsBounded}
use Rattle.spf_tree.proofs.LabelLemmas.{at_none}
use Rattle.spf_tree.proofs.SearchLemmas.{some_same}
use Rattle.spf_tree.proofs.WalkLemmas.{within_some, shorten, few, cost_bound}

-- ---- the rest of labels in order

tail_rising : (l : Label) (labels : List Label) → IsRising (l ∷ labels) → IsRising labels
tail_rising l labels rising = record { below = λ i j d h in'. rising.below (suc i) (suc j) d (omega arith) (omega arith) }

later_nodes : (l : Label) (labels : List Label) → IsRising (l ∷ labels) → (k : ℕ) (d : Label) → k < length labels → l.node < (get_or labels k d).node
later_nodes l labels rising k d in' = rising.below 0 (suc k) d (omega arith) (omega arith)

-- ---- the cost beside a node is its label's

reached_at : (node n : ℕ) (o : Option ℕ) (entries : List (ℕ × ℕ)) → (node ≡ n → cost_at entries n ≡ None) → cost_at (reached_of node o entries) n ≡ (if node == n then o else cost_at entries n)
reached_at node n None entries none =
    elim (cases_eq node n) [
      | inl is ↦ rw (eq-eqb node n is) (none is)
      | inr ne ↦ rw (ne_eqb node n ne) refl
    ]
reached_at node n (Some c) entries none = refl

pub cost_is : (labels : List Label) → IsRising labels → (n : ℕ) → cost_at (reached labels) n ≡ at labels n
cost_is [] rising n = refl
cost_is (l ∷ labels) rising n =
    let rest = cost_is labels (tail_rising l labels rising) n in
    let none : l.node ≡ n → cost_at (reached labels) n ≡ None =
    λ is. rest ∙ at_none labels n (λ k d in' e. let up = later_nodes l labels rising k d in' in absurd (omega arith)) in
    reached_at l.node n l.cost (reached labels) none ∙ ap (λ (o : Option ℕ). if l.node == n then l.cost else o) rest

-- ---- and the nodes are in order

abbrev pub nodes_of : List (ℕ × ℕ) → List ℕ
nodes_of entries = map (λ (e : ℕ × ℕ). e.0) entries

abbrev pub FirstAbove : ℕ → List ℕ → Type 0
FirstAbove n [] = Unit {0}
FirstAbove n (m ∷ ns) = n < m

pub up_cons : (n : ℕ) (ns : List ℕ) → FirstAbove n ns → IsStrictlyIncreasing ns → IsStrictlyIncreasing (n ∷ ns)
up_cons n [] h up k l = absurd (omega arith)
up_cons n (m ∷ ns) h up zero l = h
up_cons n (m ∷ ns) h up (suc k) l = subst (λ (j : ℕ). get_or (n ∷ m ∷ ns) (suc k) 0 < get_or (n ∷ m ∷ ns) j 0) {x = suc (k + 1)} {y = suc k + 1} (omega arith) (up k (omega arith))

pub up_tail : (n : ℕ) (ns : List ℕ) → IsStrictlyIncreasing (n ∷ ns) → IsStrictlyIncreasing ns
up_tail n ns up k l = subst (λ (j : ℕ). get_or (n ∷ ns) (suc k) 0 < get_or (n ∷ ns) j 0) {x = suc k + 1} {y = suc (k + 1)} (omega arith) (up (suc k) (omega arith))

pub up_first : (n : ℕ) (ns : List ℕ) → IsStrictlyIncreasing (n ∷ ns) → FirstAbove n ns
up_first n [] up = tt
up_first n (m ∷ ns) up = up 0 (omega arith)

first_of : (n node : ℕ) (o : Option ℕ) (entries : List (ℕ × ℕ)) → n < node → FirstAbove n (nodes_of entries) → FirstAbove n (nodes_of (reached_of node o entries))
first_of n node None entries less rest = rest
first_of n node (Some c) entries less rest = less

up_of : (node : ℕ) (o : Option ℕ) (entries : List (ℕ × ℕ)) → FirstAbove node (nodes_of entries) → IsStrictlyIncreasing (nodes_of entries) → IsStrictlyIncreasing (nodes_of (reached_of node o entries))
up_of node None entries first up = up
up_of node (Some c) entries first up = up_cons node (nodes_of entries) first up

first_above : (n : ℕ) (labels : List Label) → ((k : ℕ) (d : Label) → k < length labels → n < (get_or labels k d).node) → FirstAbove n (nodes_of (reached labels))
first_above n [] above = tt
first_above n (l ∷ labels) above = first_of n l.node l.cost (reached labels) (above 0 l (omega arith)) (first_above n labels (λ k d in'. above (suc k) d (omega arith)))

pub nodes_rise : (labels : List Label) → IsRising labels → IsStrictlyIncreasing (nodes_of (reached labels))
nodes_rise [] rising = λ k l. absurd (omega arith)
nodes_rise (l ∷ labels) rising = up_of l.node l.cost (reached labels) (first_above l.node labels (later_nodes l labels rising)) (nodes_rise labels (tail_rising l labels rising))

-- ---- least costs are one, whatever tells them

some_or_none : (o : Option ℕ) → (o ≡ None) ⊎ ((c : ℕ) × (o ≡ Some c))
some_or_none None = inl refl
some_or_none (Some c) = inr (c, refl)

pub least_same : (rows : List Row) (root : ℕ) (f g : ℕ → Option ℕ) → AreLeast rows root f → AreLeast rows root g → (n : ℕ) → f n ≡ g n
least_same rows root f g of_f of_g n =
    elim (some_or_none (f n)) [
      | inl none ↦
          elim (some_or_none (g n)) [
            | inl none_too ↦ none ∙ sym none_too
            | inr some ↦ let w = of_g.walk n some.0 some.1 in let in' : IsWithin None (cost w.0) = rw none at (of_f.least w.0 n w.1) in absurd in'
          ]
      | inr some ↦
          let w = of_f.walk n some.0 some.1 in
          let there = within_some (g n) (cost w.0) (of_g.least w.0 n w.1) in
          let v = of_g.walk n there.0 there.1 in
          let back = within_some (f n) (cost v.0) (of_f.least v.0 n v.1) in
          let is : some.0 ≡ back.0 = some_same back.0 some.0 (f n) back.1 some.1 in
          let w_cost = w.2 in
          let v_cost = v.2 in
          let there_le = there.2 in
          let back_le = back.2 in
          let same : some.0 ≡ there.0 = omega arith in
          some.1 ∙ ap (λ (c : ℕ). Some c) same ∙ sym there.1
    ]

-- ---- and so are lists in order that tell the same costs

none_below : (n : ℕ) (entries : List (ℕ × ℕ)) → FirstAbove n (nodes_of entries) → IsStrictlyIncreasing (nodes_of entries) → cost_at entries n ≡ None
none_below n [] first up = refl
none_below n (e ∷ []) first up = rw (ne_eqb e.0 n (omega arith)) refl
none_below n (e ∷ f ∷ entries) first up =
    let next : e.0 < f.0 = up 0 (omega arith) in
    rw (ne_eqb e.0 n (omega arith)) (none_below n (f ∷ entries) (omega arith) (up_tail e.0 (nodes_of (f ∷ entries)) up))

here : (e : ℕ × ℕ) (entries : List (ℕ × ℕ)) → cost_at (e ∷ entries) e.0 ≡ Some e.1
here e entries = rw (eq-eqb e.0 e.0 refl) refl

not_first : (x y : ℕ × ℕ) (a b : List (ℕ × ℕ)) → IsStrictlyIncreasing (nodes_of (y ∷ b)) → ((n : ℕ) → cost_at (x ∷ a) n ≡ cost_at (y ∷ b) n) → x.0 < y.0 → ⊥
not_first x y a b up same less =
    let none = none_below x.0 (y ∷ b) less up in
    let e : Some x.1 ≡ None = sym (here x a) ∙ same x.0 ∙ none in
    cc

tail_same : (x : ℕ × ℕ) (c : ℕ) (a b : List (ℕ × ℕ)) → IsStrictlyIncreasing (nodes_of (x ∷ a)) → IsStrictlyIncreasing (nodes_of ((x.0, c) ∷ b)) → ((n : ℕ) → cost_at (x ∷ a) n ≡ cost_at ((x.0, c) ∷ b) n) → (n : ℕ) → cost_at a n ≡ cost_at b n
tail_same x c a b up_a up_b same n =
    elim (cases_eq x.0 n) [
      | inl is ↦
          let none_a = none_below x.0 a (up_first x.0 (nodes_of a) up_a) (up_tail x.0 (nodes_of a) up_a) in
          let none_b = none_below x.0 b (up_first x.0 (nodes_of b) up_b) (up_tail x.0 (nodes_of b) up_b) in
          subst (λ (m : ℕ). cost_at a m ≡ cost_at b m) is (none_a ∙ sym none_b)
      | inr ne ↦ rw (ne_eqb x.0 n ne) at (same n)
    ]

differ : (a b : ℕ) → a ≢ b → (a < b → ⊥) → (b < a → ⊥) → ⊥
differ a b ne not_less not_more = elim (cases_lt a b) [ inl less ↦ not_less less | inr not_l ↦ not_more (omega arith) ]

pub one_list : (a b : List (ℕ × ℕ)) → IsStrictlyIncreasing (nodes_of a) → IsStrictlyIncreasing (nodes_of b) → ((n : ℕ) → cost_at a n ≡ cost_at b n) → a ≡ b
one_list [] [] up_a up_b same = refl
one_list [] (y ∷ b) up_a up_b same = let e : None ≡ Some y.1 = same y.0 ∙ here y b in cc
one_list (x ∷ a) [] up_a up_b same = let e : Some x.1 ≡ None = sym (here x a) ∙ same x.0 in cc
one_list (x ∷ a) (y ∷ b) up_a up_b same =
    let not_less : x.0 < y.0 → ⊥ = not_first x y a b up_b same in
    let not_more : y.0 < x.0 → ⊥ = not_first y x b a up_a (λ n. sym (same n)) in
    elim (cases_eq x.0 y.0) [
      | inl is ↦
          let at_y : cost_at (x ∷ a) x.0 ≡ Some y.1 = same x.0 ∙ ap (cost_at (y ∷ b)) is ∙ here y b in
          let costs : y.1 ≡ x.1 = some_same x.1 y.1 (cost_at (x ∷ a) x.0) (here x a) at_y in
          let first : y ≡ x = ap (λ (m : ℕ). (m, y.1)) (sym is) ∙ ap (λ (c : ℕ). (x.0, c)) costs in
          let up_x : IsStrictlyIncreasing (nodes_of (x ∷ b)) = subst (λ (e : ℕ × ℕ). IsStrictlyIncreasing (nodes_of (e ∷ b))) first up_b in
          let same_x : (n : ℕ) → cost_at (x ∷ a) n ≡ cost_at (x ∷ b) n = subst (λ (e : ℕ × ℕ). (n : ℕ) → cost_at (x ∷ a) n ≡ cost_at (e ∷ b) n) first same in
          let rest : a ≡ b = one_list a b (up_tail x.0 (nodes_of a) up_a) (up_tail x.0 (nodes_of b) up_x) (tail_same x x.1 a b up_a up_x same_x) in
          ap (λ (es : List (ℕ × ℕ)). x ∷ es) rest ∙ ap (λ (e : ℕ × ℕ). e ∷ b) (sym first)
      | inr ne ↦ absurd (differ x.0 y.0 ne not_less not_more)
    ]

pub one_distances : (rows : List Row) (root : ℕ) (a b : List (ℕ × ℕ)) → AreDistances rows root a → AreDistances rows root b → a ≡ b
one_distances rows root a b of_a of_b = one_list a b of_a.rising of_b.rising (least_same rows root (cost_at a) (cost_at b) of_a.least of_b.least)

-- ---- least costs leave room for a metric in 64 bits: the cheapest walk passes no node twice

pub cost_small : (rows : List Row) (root : ℕ) (costs : List (ℕ × ℕ)) (node c : ℕ) → IsBounded rows → AreDistances rows root costs → cost_at costs node ≡ Some c → c ≤ 18446744065119617025
cost_small rows root costs node c bounded are is =
    let w = are.least.walk node c is in
    let s = shorten rows root w.0 node w.1 in
    let n = few rows root node (cost w.0) s in
    let most = cost_bound rows root s.walk node bounded s.is in
    let rows_few = bounded.few in
    let least : IsWithin (Some c) (cost s.walk) = rw is at (are.least.least s.walk node s.is) in
    omega arith

pub costs_small : (rows : List Row) (root : ℕ) (costs : List (ℕ × ℕ)) → IsBounded rows → AreDistances rows root costs → AreSmall costs
costs_small rows root costs bounded are = record { each = λ node c is. cost_small rows root costs node c bounded are is }
