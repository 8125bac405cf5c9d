-- What a node's LSPs tell is read off them alone.
use Rattle.std.proofs.Common.{◌≡◌, ◌∙◌, ℕ, ◌+◌, ◌%◌, Bool, true, false, List, [], ◌∷◌, ◌++◌, map, filter, Option, Some, refl, sym, ap, arith, if◌then◌else◌, nat_le, ◌&&◌, ◌==◌}
use Rattle.std.specs.Prelude.{is_some}
use Rattle.std.specs.List.{flat_map, list_any, AllByRecursion}
use Rattle.std.proofs.lemmas.Bool.{ne_eqb}
use Rattle.std.proofs.lemmas.Bool.Decides.{nat_tests}
use Rattle.isis_base.specs.declared.identifiers.SystemId.{SystemId}
use Rattle.isis_base.specs.declared.identifiers.NodeId.{NodeId}
use Rattle.isis_base.specs.declared.identifiers.LspId.{LspId}
use Rattle.isis_base.specs.Identifiers.{IsId}
use Rattle.isis_tlv.specs.declared.neighbour.NeighbourItem.{NeighbourItem}
use Rattle.lsp_store.specs.declared.entry.Entry.{Entry}
use Rattle.lsp_store.specs.Maps.{pair_number, find, between}
use Rattle.lsp_store.specs.Databases.{is_live, live_of}
use Rattle.spf_tree.specs.declared.row.Row.{Row}
use Rattle.spf_tree.specs.Nodes.{node_number}
use Rattle.spf_tree.specs.Walks.{start}
use Rattle.spf_tree.specs.Graphs as graphs
use Rattle.lsp_view.specs.Bodies.{neighbours_in}
use Rattle.lsp_view.specs.Views.{number_of, own_node, where_live, lead_of, row_from, rows_of, led_rows, rows_in, is_overloaded, overloaded_in, where_led, reach_of, reach_in}
use Rattle.router_routes.specs.Moved.{told_by_nodes, HaveIds}
use Rattle.router_routes.proofs.IdLemmas.{Stands, stands, number-0}

abbrev Pair : Type 0
Pair = LspId × Entry

-- ---- lists

pub by-tests : (c : ℕ → Bool) (pair : Pair) (list : List Pair) (t : Bool) → c (node_number pair.0.node) ≡ t → told_by_nodes c (pair ∷ list) ≡ (if t then pair ∷ told_by_nodes c list else told_by_nodes c list)
by-tests c pair list t is = rw is refl

live-tests : (pair : Pair) (list : List Pair) (t : Bool) → is_live pair.1 ≡ t → live_of (pair ∷ list) ≡ (if t then pair ∷ live_of list else live_of list)
live-tests pair list t is = rw is refl

live-by-step : (c : ℕ → Bool) (pair : Pair) (list : List Pair) → live_of (told_by_nodes c list) ≡ told_by_nodes c (live_of list) → (t u : Bool) → is_live pair.1 ≡ t → c (node_number pair.0.node) ≡ u → live_of (told_by_nodes c (pair ∷ list)) ≡ told_by_nodes c (live_of (pair ∷ list))
live-by-step c pair list rest true true is in' = rw (in', is, in') (ap (λ (l : List Pair). pair ∷ l) rest)
live-by-step c pair list rest true false is in' = rw (in', is, in') rest
live-by-step c pair list rest false true is in' = rw (in', is) rest
live-by-step c pair list rest false false is in' = rw (in', is) rest

-- the live ones of some nodes
pub live-by : (c : ℕ → Bool) (list : List Pair) → live_of (told_by_nodes c list) ≡ told_by_nodes c (live_of list)
live-by c [] = refl
live-by c (pair ∷ list) = live-by-step c pair list (live-by c list) (is_live pair.1) (c (node_number pair.0.node)) refl refl

live-ids-step : (pair : Pair) (list : List Pair) → IsId pair.0 → HaveIds (live_of list) → (t : Bool) → HaveIds (if t then pair ∷ live_of list else live_of list)
live-ids-step pair list id rest true = (id, rest)
live-ids-step pair list id rest false = rest

pub live-ids : (list : List Pair) → HaveIds list → HaveIds (live_of list)
live-ids [] all = all
live-ids (pair ∷ list) all = live-ids-step pair list all.0 (live-ids list all.1) (is_live pair.1)

-- ---- number 0 of a node

module _ (c : ℕ → Bool) (n : ℕ) (zero : n % 256 ≡ 0) (kept : c n ≡ true) where
  find-step : (pair : Pair) (list : List Pair) → Stands pair.0 → find list n ≡ find (told_by_nodes c list) n → (t : Bool) → c (node_number pair.0.node) ≡ t → find (pair ∷ list) n ≡ find (told_by_nodes c (pair ∷ list)) n
  find-step pair list s rest true is = rw is (ap (λ (o : Option Entry). if pair_number pair == n then Some pair.1 else o) rest)
  find-step pair list s rest false is =
      let other : pair_number pair ≡ n → ⊥ = λ e.
      let a = s.is in let b = s.small in let d = s.first in
      let same : node_number pair.0.node ≡ n = omega (arith, a, b, d, e, zero) in
      (let f : true ≡ false = sym kept ∙ ap c (sym same) ∙ is in cc) in
      rw (is, ne_eqb (pair_number pair) n other) rest

  pub find-by : (list : List Pair) → HaveIds list → find list n ≡ find (told_by_nodes c list) n
  find-by [] all = refl
  find-by (pair ∷ list) all = find-step pair list (stands pair.0 all.0) (find-by list all.1) (c (node_number pair.0.node)) refl

pub lead-by : (c : ℕ → Bool) (list : List Pair) → HaveIds list → (node : NodeId) → node_number node % 256 ≡ 0 → c (node_number node) ≡ true → lead_of list node ≡ lead_of (told_by_nodes c list) node
lead-by c list all node zero kept =
    ap where_live (ap (find list) (number-0 node) ∙ find-by c (node_number node) zero kept list all ∙ ap (find (told_by_nodes c list)) (sym (number-0 node)))

-- ---- rows

filter-all : {X : Type 0} (p : X → Bool) (xs : List X) → AllByRecursion (λ x. p x ≡ true) xs → filter p xs ≡ xs
filter-all p [] all = refl
filter-all p (x ∷ xs) all = rw all.0 (ap (λ (l : List _). x ∷ l) (filter-all p xs all.1))

filter-none : {X : Type 0} (p : X → Bool) (xs : List X) → AllByRecursion (λ x. p x ≡ false) xs → filter p xs ≡ []
filter-none p [] all = refl
filter-none p (x ∷ xs) all = rw all.0 (filter-none p xs all.1)

filter-append-step : {X : Type 0} (p : X → Bool) (x : X) (xs ys : List X) → filter p (xs ++ ys) ≡ filter p xs ++ filter p ys → (t : Bool) → (if t then x ∷ filter p (xs ++ ys) else filter p (xs ++ ys)) ≡ (if t then x ∷ filter p xs else filter p xs) ++ filter p ys
filter-append-step p x xs ys rest true = ap (λ (l : List _). x ∷ l) rest
filter-append-step p x xs ys rest false = rest

pub filter-append : {X : Type 0} (p : X → Bool) (xs ys : List X) → filter p (xs ++ ys) ≡ filter p xs ++ filter p ys
filter-append p [] ys = refl
filter-append p (x ∷ xs) ys = filter-append-step p x xs ys (filter-append p xs ys) (p x)

abbrev pub starts : (ℕ → Bool) → Row → Bool
starts c row = c (start row)

all-start : (c : ℕ → Bool) (node : NodeId) (t : Bool) → c (node_number node) ≡ t → (items : List NeighbourItem) → AllByRecursion (λ row. starts c row ≡ t) (map (row_from node) items)
all-start c node t is [] = tt
all-start c node t is (item ∷ items) = (is, all-start c node t is items)

kept-led : (c : ℕ → Bool) (pair : Pair) → c (node_number pair.0.node) ≡ true → (led : Bool) → filter (starts c) (if led then rows_of pair else []) ≡ (if led then rows_of pair else [])
kept-led c pair is true = filter-all (starts c) (rows_of pair) (all-start c pair.0.node true is (neighbours_in pair.1.octets))
kept-led c pair is false = refl

lost-led : (c : ℕ → Bool) (pair : Pair) → c (node_number pair.0.node) ≡ false → (led : Bool) → filter (starts c) (if led then rows_of pair else []) ≡ []
lost-led c pair is true = filter-none (starts c) (rows_of pair) (all-start c pair.0.node false is (neighbours_in pair.1.octets))
lost-led c pair is false = refl

module _ (c : ℕ → Bool) (told : List Pair) (ids : HaveIds told) where
  rows-step : (pair : Pair) (list : List Pair) → Stands pair.0 → filter (starts c) (flat_map (led_rows told) list) ≡ flat_map (led_rows (told_by_nodes c told)) (told_by_nodes c list) → (t : Bool) → c (node_number pair.0.node) ≡ t
      → filter (starts c) (flat_map (led_rows told) (pair ∷ list)) ≡ flat_map (led_rows (told_by_nodes c told)) (told_by_nodes c (pair ∷ list))
  rows-step pair list s rest true is =
      let lead = lead-by c told ids pair.0.node s.first is in
      rw is (
      filter-append (starts c) (led_rows told pair) (flat_map (led_rows told) list)
      ∙ ap (λ (l : List Row). l ++ filter (starts c) (flat_map (led_rows told) list)) (kept-led c pair is (is_some (lead_of told pair.0.node)) ∙ ap (λ (o : Option Entry). if is_some o then rows_of pair else []) lead)
      ∙ ap (λ (l : List Row). led_rows (told_by_nodes c told) pair ++ l) rest)
  rows-step pair list s rest false is =
      rw is (
      filter-append (starts c) (led_rows told pair) (flat_map (led_rows told) list)
      ∙ ap (λ (l : List Row). l ++ filter (starts c) (flat_map (led_rows told) list)) (lost-led c pair is (is_some (lead_of told pair.0.node)))
      ∙ rest)

  rows-list : (list : List Pair) → HaveIds list → filter (starts c) (flat_map (led_rows told) list) ≡ flat_map (led_rows (told_by_nodes c told)) (told_by_nodes c list)
  rows-list [] all = refl
  rows-list (pair ∷ list) all = rows-step pair list (stands pair.0 all.0) (rows-list list all.1) (c (node_number pair.0.node)) refl

  -- the rows that start at some nodes are those that their LSPs list
  pub rows-by : filter (starts c) (rows_in told) ≡ rows_in (told_by_nodes c told)
  unfolding rows_in
  rows-by = rows-list (live_of told) (live-ids told ids) ∙ ap (flat_map (led_rows (told_by_nodes c told))) (sym (live-by c told))

-- ---- overloaded nodes

module _ (c : ℕ → Bool) (n : ℕ) (kept : c n ≡ true) where
  over : List Pair → Bool
  over list = list_any (λ (o : NodeId). node_number o == n) (map (λ (pair : Pair). pair.0.node) (filter is_overloaded list))

  over-step : (pair : Pair) (list : List Pair) → over list ≡ over (told_by_nodes c list) → (t u v : Bool) → c (node_number pair.0.node) ≡ t → is_overloaded pair ≡ u → (node_number pair.0.node == n) ≡ v → over (pair ∷ list) ≡ over (told_by_nodes c (pair ∷ list))
  unfolding over
  over-step pair list rest true true true in' is same = rw (in', is, same) refl
  over-step pair list rest true true false in' is same = rw (in', is, same) rest
  over-step pair list rest true false v in' is same = rw (in', is) rest
  over-step pair list rest false true true in' is same =
      let e : node_number pair.0.node ≡ n = grind (arith, nat_tests, same) in
      absurd (let f : true ≡ false = sym kept ∙ ap c (sym e) ∙ in' in cc)
  over-step pair list rest false true false in' is same = rw (in', is, same) rest
  over-step pair list rest false false v in' is same = rw (in', is) rest

  over-list : (list : List Pair) → over list ≡ over (told_by_nodes c list)
  over-list [] = refl
  over-list (pair ∷ list) = over-step pair list (over-list list) (c (node_number pair.0.node)) (is_overloaded pair) (node_number pair.0.node == n) refl refl refl

  pub overloaded-by : (told : List Pair) → graphs.is_overloaded (overloaded_in told) n ≡ graphs.is_overloaded (overloaded_in (told_by_nodes c told)) n
  unfolding overloaded_in over
  overloaded-by told = over-list (live_of told) ∙ ap over (sym (live-by c told))

-- ---- prefixes of a system

module _ (c : ℕ → Bool) (n : ℕ) (zero : n % 256 ≡ 0) (kept : c n ≡ true) where
  between-step : (pair : Pair) (list : List Pair) → Stands pair.0 → between n (n + 255) list ≡ between n (n + 255) (told_by_nodes c list) → (t : Bool) → c (node_number pair.0.node) ≡ t → between n (n + 255) (pair ∷ list) ≡ between n (n + 255) (told_by_nodes c (pair ∷ list))
  between-step pair list s rest true is = rw is (ap (λ (l : List Pair). if nat_le n (pair_number pair) && nat_le (pair_number pair) (n + 255) then pair ∷ l else l) rest)
  between-step pair list s rest false is =
      let other : node_number pair.0.node ≡ n → ⊥ = λ e. (let f : true ≡ false = sym kept ∙ ap c (sym e) ∙ is in cc) in
      let a = s.is in let b = s.small in let d = s.first in
      let out : (nat_le n (pair_number pair) && nat_le (pair_number pair) (n + 255)) ≡ false = grind (arith, nat_tests, a, b, d, zero, other) in
      rw (is, out) rest

  pub between-by : (list : List Pair) → HaveIds list → between n (n + 255) list ≡ between n (n + 255) (told_by_nodes c list)
  between-by [] all = refl
  between-by (pair ∷ list) all = between-step pair list (stands pair.0 all.0) (between-by list all.1) (c (node_number pair.0.node)) refl

pub number-255 : (node : NodeId) → IsId (record { node = node; number = 255 }) → number_of node 255 ≡ node_number node + 255
number-255 node id = (stands (record { node = node; number = 255 }) id).is

pub reach-by : (c : ℕ → Bool) (told : List Pair) → HaveIds told → (system : SystemId) → IsId (record { node = own_node system; number = 255 }) → c (node_number (own_node system)) ≡ true → reach_in told system ≡ reach_in (told_by_nodes c told) system
unfolding reach_in
reach-by c told ids system id kept =
    let node = own_node system in
    let s = stands (record { node = node; number = 255 }) id in
    let items = λ (list : List Pair). flat_map reach_of (live_of list) in
    let span : between (number_of node 0) (number_of node 255) told ≡ between (number_of node 0) (number_of node 255) (told_by_nodes c told) =
    ap (λ (a : ℕ). between a (number_of node 255) told) (number-0 node) ∙ ap (λ (b : ℕ). between (node_number node) b told) (number-255 node id)
    ∙ between-by c (node_number node) s.first kept told ids
    ∙ ap (λ (b : ℕ). between (node_number node) b (told_by_nodes c told)) (sym (number-255 node id)) ∙ ap (λ (a : ℕ). between a (number_of node 255) (told_by_nodes c told)) (sym (number-0 node)) in
    ap (λ (o : Option Entry). where_led o (items (between (number_of node 0) (number_of node 255) told))) (lead-by c told ids node s.first kept)
    ∙ ap (λ (l : List Pair). where_led (lead_of (told_by_nodes c told) node) (items l)) span

-- ---- the rows of one node

module _ (n : ℕ) (zero : n % 256 ≡ 0) where
  at-step : (pair : Pair) (list : List Pair) → Stands pair.0 → between n (n + 255) list ≡ told_by_nodes (λ m. m == n) list → (t : Bool) → (node_number pair.0.node == n) ≡ t → between n (n + 255) (pair ∷ list) ≡ told_by_nodes (λ m. m == n) (pair ∷ list)
  at-step pair list s rest true is =
      let a = s.is in let b = s.small in let d = s.first in
      let inside : (nat_le n (pair_number pair) && nat_le (pair_number pair) (n + 255)) ≡ true = grind (arith, nat_tests, a, b, d, zero, is) in
      rw (is, inside) (ap (λ (l : List Pair). pair ∷ l) rest)
  at-step pair list s rest false is =
      let a = s.is in let b = s.small in let d = s.first in
      let out : (nat_le n (pair_number pair) && nat_le (pair_number pair) (n + 255)) ≡ false = grind (arith, nat_tests, a, b, d, zero, is) in
      rw (is, out) rest

  pub between-at : (list : List Pair) → HaveIds list → between n (n + 255) list ≡ told_by_nodes (λ m. m == n) list
  between-at [] all = refl
  between-at (pair ∷ list) all = at-step pair list (stands pair.0 all.0) (between-at list all.1) (node_number pair.0.node == n) refl
