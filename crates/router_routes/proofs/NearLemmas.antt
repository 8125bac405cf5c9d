-- The rows of one node and of its neighbours tell which rows may be walked that start or end at it.
use Rattle.std.proofs.Common.{◌≡◌, ◌∙◌, ℕ, suc, ◌+◌, ◌%◌, ◌<◌, ◌≤◌, Bool, true, false, not, cond, List, [], ◌∷◌, ◌++◌, length, get_or, map, filter, Option, Some, None, refl, sym, ap, arith, inl, inr, if◌then◌else◌, ◌&&◌, ◌||◌, ◌==◌}
use Rattle.std.specs.Prelude.{is_some}
use Rattle.std.specs.Int.{bit_at}
use Rattle.std.specs.List.{flat_map, list_any, count_by, AllByRecursion}
use Rattle.std.specs.List.Sorted.{IsPermutation, IsNonDecreasingBy}
use Rattle.std.proofs.lemmas.Bool.{cases_eq, eq-eqb, ne_eqb, eqb-true}
use Rattle.std.proofs.lemmas.Bool.Decides.{nat_tests}
use Rattle.std.proofs.lemmas.List.Sums.{sum_by-cons}
use Rattle.std.proofs.lemmas.List.Sorted.{list_any-IsPermutation}
use Rattle.isis_base.specs.declared.identifiers.NodeId.{NodeId}
use Rattle.isis_base.specs.declared.identifiers.LspId.{LspId}
use Rattle.isis_base.specs.Identifiers.{IsId}
use Rattle.lsp_store.specs.declared.entry.Entry.{Entry}
use Rattle.lsp_store.specs.Maps.{pair_number, find, between, RisesFrom}
use Rattle.lsp_store.specs.Databases.{is_live, live_of}
use Rattle.spf_tree.specs.declared.row.Row.{Row}
use Rattle.spf_tree.specs.Nodes.{node_number}
use Rattle.spf_tree.specs.Walks.{end}
use Rattle.spf_tree.specs.Graphs as graphs
use Rattle.spf_tree.specs.Graphs.{GraphOf, AreUsable, leads, is_usable, same_row, times}
use Rattle.lsp_view.specs.Views.{number_of, where_live, lead_of, rows_of, led_rows, rows_in, rows_at, is_overloaded, overloaded_in, overload_at, where_led}
use Rattle.router_routes.specs.Told.{told_in}
use Rattle.router_routes.specs.Moved.{told_at, HaveIds}
use Rattle.router_routes.specs.Near.{rows_from, other_ends, once_each, AreEnds}
use Rattle.router_routes.proofs.IdLemmas.{Stands, stands, number-0}
use Rattle.router_routes.proofs.NodeLemmas.{lead-by, rows-by, between-at, number-255}
use Rattle.router_routes.proofs.ToldLemmas.{rows-told, overloaded-told}

abbrev Pair : Type 0
Pair = LspId × Entry

-- ---- the rows that one node lists

lead-number : (told : List Pair) (a b : NodeId) → node_number a ≡ node_number b → lead_of told a ≡ lead_of told b
lead-number told a b same = ap (λ (n : ℕ). where_live (find told n)) (number-0 a ∙ same ∙ sym (number-0 b))

led-one : (told : List Pair) (o : Option Entry) (list : List Pair) → AllByRecursion (λ pair. lead_of told pair.0.node ≡ o) list → flat_map (led_rows told) list ≡ where_led o (flat_map rows_of list)
led-one told None [] all = refl
led-one told (Some e) [] all = refl
led-one told None (pair ∷ list) all =
    ap (λ (o : Option Entry). (if is_some o then rows_of pair else []) ++ flat_map (led_rows told) list) all.0 ∙ led-one told None list all.1
led-one told (Some e) (pair ∷ list) all =
    ap (λ (o : Option Entry). (if is_some o then rows_of pair else []) ++ flat_map (led_rows told) list) all.0 ∙ ap (λ (l : List Row). rows_of pair ++ l) (led-one told (Some e) list all.1)

at-step : (told : List Pair) (node : NodeId) (pair : Pair) (list : List Pair) → AllByRecursion (λ p. lead_of told p.0.node ≡ lead_of told node) (live_of (told_at node list)) → (t u : Bool) → (node_number pair.0.node == node_number node) ≡ t → is_live pair.1 ≡ u
    → AllByRecursion (λ p. lead_of told p.0.node ≡ lead_of told node) (live_of (told_at node (pair ∷ list)))
at-step told node pair list rest true true is live = rw (is, live) (lead-number told pair.0.node node (eqb-true (node_number pair.0.node) (node_number node) is), rest)
at-step told node pair list rest true false is live = rw (is, live) rest
at-step told node pair list rest false u is live = rw is rest

at-all : (told : List Pair) (node : NodeId) (list : List Pair) → AllByRecursion (λ p. lead_of told p.0.node ≡ lead_of told node) (live_of (told_at node list))
at-all told node [] = tt
at-all told node (pair ∷ list) = at-step told node pair list (at-all told node list) (node_number pair.0.node == node_number node) (is_live pair.1) refl refl

pub own-rows : (entries : List Pair) (node : NodeId) → RisesFrom 0 entries → HaveIds entries → IsId (record { node = node; number = 255 }) → rows_at entries node ≡ rows_from (node_number node) (rows_in (told_in entries))
unfolding rows_at rows_in
own-rows entries node rises ids id =
    let s = stands (record { node = node; number = 255 }) id in
    let mine = told_at node entries in
    let items = λ (list : List Pair). flat_map rows_of (live_of list) in
    let span : between (number_of node 0) (number_of node 255) entries ≡ mine =
    ap (λ (a : ℕ). between a (number_of node 255) entries) (number-0 node) ∙ ap (λ (b : ℕ). between (node_number node) b entries) (number-255 node id) ∙ between-at (node_number node) s.first entries ids in
    ap (λ (l : List Pair). where_led (lead_of entries node) (items l)) span
    ∙ ap (λ (o : Option Entry). where_led o (items mine)) (lead-by (λ m. m == node_number node) entries ids node s.first (eq-eqb (node_number node) (node_number node) refl))
    ∙ sym (led-one mine (lead_of mine node) (live_of mine) (at-all mine node entries))
    ∙ sym (rows-by (λ m. m == node_number node) entries ids)
    ∙ sym (ap (rows_from (node_number node)) (rows-told entries rises))

-- ---- whether one node is overloaded

abbrev over-in : ℕ → List Pair → Bool
over-in n list = list_any (λ (o : NodeId). node_number o == n) (map (λ (pair : Pair). pair.0.node) (filter is_overloaded list))

over-skip : (n : ℕ) (pair : Pair) (list : List Pair) → Stands pair.0 → (pair_number pair ≡ n → ⊥) → (t : Bool) → is_overloaded pair ≡ t → over-in n (pair ∷ list) ≡ over-in n list
over-skip n pair list s other false is = rw is refl
over-skip n pair list s other true is =
    let a = s.is in
    let zero' : pair.0.number ≡ 0 = grind (arith, nat_tests, is) in
    let apart : (node_number pair.0.node == n) ≡ false = ne_eqb (node_number pair.0.node) n (λ e. other (omega (arith, a, zero', e))) in
    rw (is, apart) refl

live-skip : (n : ℕ) (pair : Pair) (list : List Pair) → Stands pair.0 → (pair_number pair ≡ n → ⊥) → (t : Bool) → is_live pair.1 ≡ t → over-in n (live_of (pair ∷ list)) ≡ over-in n (live_of list)
live-skip n pair list s other true live = rw live (over-skip n pair (live_of list) s other (is_overloaded pair) refl)
live-skip n pair list s other false live = rw live refl

none-over : (n least : ℕ) (list : List Pair) → RisesFrom least list → HaveIds list → n < least → over-in n (live_of list) ≡ false
none-over n least [] rises ids less = refl
none-over n least (pair ∷ list) rises ids less =
    let first = rises.0 in
    live-skip n pair list (stands pair.0 ids.0) (λ e. absurd (omega (arith, first, less, e))) (is_live pair.1) refl
    ∙ none-over n (pair_number pair + 1) list rises.1 ids.1 (omega (arith, first, less))

over-here : (n : ℕ) (pair : Pair) (list : List Pair) → node_number pair.0.node ≡ n → pair.0.number ≡ 0 → over-in n (live_of list) ≡ false → (t u : Bool) → is_live pair.1 ≡ t → (bit_at pair.1.flags 2 == 1) ≡ u → over-in n (live_of (pair ∷ list)) ≡ overload_at (where_live (Some pair.1))
over-here n pair list same zero' none true true live bit = rw (live, zero', bit, same, eq-eqb n n refl) refl
over-here n pair list same zero' none true false live bit = rw (live, zero', bit) none
over-here n pair list same zero' none false u live bit = rw live none

over-find : (n least : ℕ) (list : List Pair) → n % 256 ≡ 0 → RisesFrom least list → HaveIds list → over-in n (live_of list) ≡ overload_at (where_live (find list n))
over-find n least [] first rises ids = refl
over-find n least (pair ∷ list) first rises ids =
    let s = stands pair.0 ids.0 in
    let a = s.is in let b = s.small in let d = s.first in
    elim (cases_eq (pair_number pair) n) [
      | inl here ↦
          rw (eq-eqb (pair_number pair) n here)
          (over-here n pair list (omega (arith, a, b, d, first, here)) (omega (arith, a, b, d, first, here)) (none-over n (pair_number pair + 1) list rises.1 ids.1 (omega (arith, here))) (is_live pair.1) (bit_at pair.1.flags 2 == 1) refl refl)
      | inr other ↦ rw (ne_eqb (pair_number pair) n other) (live-skip n pair list s other (is_live pair.1) refl ∙ over-find n (pair_number pair + 1) list first rises.1 ids.1)
    ]

pub over-at : (entries : List Pair) (node : NodeId) → RisesFrom 0 entries → HaveIds entries → node_number node % 256 ≡ 0 → overload_at (lead_of entries node) ≡ graphs.is_overloaded (overloaded_in (told_in entries)) (node_number node)
unfolding overloaded_in
over-at entries node rises ids first =
    ap (λ (n : ℕ). overload_at (where_live (find entries n))) (number-0 node)
    ∙ sym (over-find (node_number node) 0 entries first rises ids)
    ∙ sym (ap (λ (nodes : List NodeId). graphs.is_overloaded nodes (node_number node)) (overloaded-told entries rises))

-- ---- each end once

abbrev is-node : ℕ → NodeId → Bool
is-node n node = node_number node == n

none-above : (n least : ℕ) (nodes : List NodeId) → AllByRecursion (λ b. least ≤ node_number b) nodes → n < least → list_any (is-node n) nodes ≡ false
none-above n least [] all less = refl
none-above n least (b ∷ nodes) all less =
    let first = all.0 in
    rw (ne_eqb (node_number b) n (λ e. absurd (omega (arith, first, less, e)))) (none-above n least nodes all.1 less)

all-least : (least : ℕ) (nodes : List NodeId) → ((i : ℕ) (d : NodeId) → i < length nodes → least ≤ node_number (get_or nodes i d)) → AllByRecursion (λ b. least ≤ node_number b) nodes
all-least least [] h = tt
all-least least (b ∷ nodes) h = (h 0 b (omega arith), all-least least nodes (λ i d less. h (suc i) d (omega (arith, less))))

tail-rises : (x : NodeId) (xs : List NodeId) → IsNonDecreasingBy node_number (x ∷ xs) → IsNonDecreasingBy node_number xs
tail-rises x xs h = λ i j d le less. h (suc i) (suc j) d (omega (arith, le)) (omega (arith, less))

abbrev any-bit : ℕ → List NodeId → ℕ
any-bit n nodes = if list_any (is-node n) nodes then 1 else 0

count-cons : (n : ℕ) (x : NodeId) (xs : List NodeId) → count_by (is-node n) (x ∷ xs) ≡ cond (is-node n x) 1 0 + count_by (is-node n) xs
count-cons n x xs = sum_by-cons (λ y. cond (is-node n y) 1 0) x xs

nothing-more : (n : ℕ) → 0 + n ≡ n
nothing-more n = omega arith

once-step : (n : ℕ) (x y : NodeId) (ys : List NodeId) → IsNonDecreasingBy node_number (x ∷ (y ∷ ys)) → count_by (is-node n) (once_each (y ∷ ys)) ≡ any-bit n (y ∷ ys) → (t u : Bool) → (node_number x == node_number y) ≡ t → is-node n x ≡ u
    → count_by (is-node n) (once_each (x ∷ (y ∷ ys))) ≡ any-bit n (x ∷ (y ∷ ys))
once-step n x y ys rises rest true true same is =
    let e : is-node n y ≡ true = grind (arith, nat_tests, same, is) in
    rw (same, is) (rest ∙ ap (λ (t : Bool). if t || list_any (is-node n) ys then 1 else 0) e)
once-step n x y ys rises rest true false same is = rw (same, is) rest
once-step n x y ys rises rest false true same is =
    let le : node_number x ≤ node_number y = rises 0 1 x (omega arith) (omega arith) in
    let less : n < node_number y = grind (arith, nat_tests, same, is, le) in
    let above : AllByRecursion (λ b. node_number y ≤ node_number b) (y ∷ ys) = all-least (node_number y) (y ∷ ys) (λ i d l. rises 1 (suc i) d (omega arith) (omega (arith, l))) in
    let none = none-above n (node_number y) (y ∷ ys) above less in
    rw same (count-cons n x (once_each (y ∷ ys)) ∙ rw is (let r = rest ∙ ap (λ (t : Bool). if t then 1 else 0) none in omega (arith, r)))
once-step n x y ys rises rest false false same is = rw same (count-cons n x (once_each (y ∷ ys)) ∙ rw is (nothing-more (count_by (is-node n) (once_each (y ∷ ys))) ∙ rest))

once-last : (n : ℕ) (x : NodeId) (u : Bool) → is-node n x ≡ u → count_by (is-node n) (x ∷ []) ≡ any-bit n (x ∷ [])
once-last n x true is = count-cons n x [] ∙ rw is refl
once-last n x false is = count-cons n x [] ∙ rw is refl

once-count : (n : ℕ) (nodes : List NodeId) → IsNonDecreasingBy node_number nodes → count_by (is-node n) (once_each nodes) ≡ any-bit n nodes
once-count n [] rises = refl
once-count n (x ∷ []) rises = once-last n x (is-node n x) refl
once-count n (x ∷ (y ∷ ys)) rises = once-step n x y ys rises (once-count n (y ∷ ys) (tail-rises x (y ∷ ys) rises)) (node_number x == node_number y) (is-node n x) refl refl

ends-bool : (t u v any : Bool) → (t ≡ true → u ≡ v) → (t ≡ false → (u && v) ≡ false) → (if not t then (u || (not v && any)) else (not v && any)) ≡ (not v && (u || any))
ends-bool true u true any f g = refl
ends-bool true true false any f g = absurd (let e : true ≡ false = f refl in cc)
ends-bool true false false any f g = refl
ends-bool false true true any f g = absurd (let e : true ≡ false = g refl in cc)
ends-bool false false true any f g = refl
ends-bool false u false any f g = refl

ends-push : (n : ℕ) (row : Row) (list : List NodeId) (t : Bool) → list_any (is-node n) (if t then row.to ∷ list else list) ≡ (if t then ((end row == n) || list_any (is-node n) list) else list_any (is-node n) list)
ends-push n row list true = refl
ends-push n row list false = refl

ends-map : (row : Row) (list : List Row) (t : Bool) → map (λ (r : Row). r.to) (if t then row ∷ list else list) ≡ (if t then row.to ∷ map (λ (r : Row). r.to) list else map (λ (r : Row). r.to) list)
ends-map row list true = refl
ends-map row list false = refl

and-none : (b : Bool) → (b && false) ≡ false
and-none true = refl
and-none false = refl

ends-any : (node n : ℕ) (rows : List Row) → list_any (is-node n) (other_ends node rows) ≡ (not (n == node) && list_any (λ (row : Row). end row == n) rows)
ends-any node n [] = sym (and-none (not (n == node)))
ends-any node n (row ∷ rows) =
    let rest = ends-any node n rows in
    ap (list_any (is-node n)) (ends-map row (filter (λ (r : Row). not (end r == node)) rows) (not (end row == node)))
    ∙ ends-push n row (other_ends node rows) (not (end row == node))
    ∙ ap (λ (b : Bool). if not (end row == node) then ((end row == n) || b) else b) rest
    ∙ ends-bool (end row == node) (end row == n) (n == node) (list_any (λ (r : Row). end r == n) rows) (λ t. grind (arith, nat_tests, t)) (λ t. grind (arith, nat_tests, t))

pub ends-are : (node : ℕ) (rows : List Row) (ends sorted lent : List NodeId) → ends ≡ other_ends node rows → IsPermutation ends sorted → IsNonDecreasingBy node_number sorted → lent ≡ sorted → AreEnds node rows (once_each lent)
ends-are node rows ends sorted lent is moved rises e =
    λ n. ap (λ (l : List NodeId). count_by (is-node n) (once_each l)) e ∙ once-count n sorted rises
    ∙ ap (λ (t : Bool). if t then 1 else 0) (sym (list_any-IsPermutation (is-node n) ends sorted moved) ∙ ap (list_any (is-node n)) is ∙ ends-any node n rows)
