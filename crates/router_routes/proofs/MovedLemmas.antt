-- What is told where one node tells something else.
use Rattle.std.proofs.Common.{◌≡◌, ◌∙◌, ℕ, ◌+◌, ◌%◌, ◌<◌, ◌≤◌, Bool, true, false, not, List, [], ◌∷◌, ◌++◌, map, refl, sym, ap, subst, arith, inl, inr, if◌then◌else◌, ◌&&◌, ◌==◌, ◌⊎◌, append-nil}
use Rattle.std.specs.Prelude.{nat_lt}
use Rattle.std.proofs.lemmas.Bool.Decides.{nat_tests}
use Rattle.isis_base.specs.declared.identifiers.SystemId.{SystemId}
use Rattle.isis_base.specs.declared.identifiers.NodeId.{NodeId}
use Rattle.isis_base.specs.declared.identifiers.LspId.{LspId}
use Rattle.isis_base.specs.Identifiers.{IsId}
use Rattle.lsp_store.specs.declared.entry.Entry.{Entry}
use Rattle.lsp_store.specs.Maps.{pair_number, RisesFrom}
use Rattle.lsp_store.specs.Databases.{is_live, live_of}
use Rattle.spf_tree.specs.Nodes.{node_number}
use Rattle.lsp_view.specs.Views.{own_node, lead_of, reach_in}
use Rattle.router_routes.specs.Told.{told_pair, told_in}
use Rattle.router_routes.specs.Moved.{told_by_nodes, told_at, told_beside, told_before, told_past, told_with, HaveIds}
use Rattle.router_routes.proofs.IdLemmas.{Stands, stands}
use Rattle.router_routes.proofs.NodeLemmas.{by-tests, filter-append, lead-by, reach-by}

abbrev Pair : Type 0
Pair = LspId × Entry

-- ---- those of some nodes

by-by-step : (c d e : ℕ → Bool) (pair : Pair) (list : List Pair) → told_by_nodes d (told_by_nodes c list) ≡ told_by_nodes e list → (t u : Bool) → c (node_number pair.0.node) ≡ t → d (node_number pair.0.node) ≡ u → e (node_number pair.0.node) ≡ (t && u)
    → told_by_nodes d (told_by_nodes c (pair ∷ list)) ≡ told_by_nodes e (pair ∷ list)
by-by-step c d e pair list rest true true a b both = rw (a, b, both) (ap (λ (l : List Pair). pair ∷ l) rest)
by-by-step c d e pair list rest true false a b both = rw (a, b, both) rest
by-by-step c d e pair list rest false u a b both = rw (a, both) rest

pub by-by : (c d e : ℕ → Bool) → ((m : ℕ) → e m ≡ (c m && d m)) → (list : List Pair) → told_by_nodes d (told_by_nodes c list) ≡ told_by_nodes e list
by-by c d e both [] = refl
by-by c d e both (pair ∷ list) = by-by-step c d e pair list (by-by c d e both list) (c (node_number pair.0.node)) (d (node_number pair.0.node)) refl refl (both (node_number pair.0.node))

pub by-none : (c : ℕ → Bool) → ((m : ℕ) → c m ≡ false) → (list : List Pair) → told_by_nodes c list ≡ []
by-none c none [] = refl
by-none c none (pair ∷ list) = rw (none (node_number pair.0.node)) (by-none c none list)

-- of those of some nodes, those of others
pub by-apart : (c d : ℕ → Bool) → ((m : ℕ) → (c m && d m) ≡ false) → (list : List Pair) → told_by_nodes d (told_by_nodes c list) ≡ []
by-apart c d apart list = by-by c d (λ m. c m && d m) (λ m. refl) list ∙ by-none (λ m. c m && d m) apart list

-- and of those of some nodes, all
by-within : (c d : ℕ → Bool) → ((m : ℕ) → c m ≡ (c m && d m)) → (list : List Pair) → told_by_nodes d (told_by_nodes c list) ≡ told_by_nodes c list
by-within c d within list = by-by c d c within list

-- by a test that passes fewer, of those that another one passes
less-step : (c d : ℕ → Bool) (pair : Pair) (list : List Pair) → ((n : ℕ) → c n ≡ true → d n ≡ true) → told_by_nodes c (told_by_nodes d list) ≡ told_by_nodes c list → (t u : Bool) → c (node_number pair.0.node) ≡ t → d (node_number pair.0.node) ≡ u
    → told_by_nodes c (told_by_nodes d (pair ∷ list)) ≡ told_by_nodes c (pair ∷ list)
less-step c d pair list less rest t true is in' = ap (told_by_nodes c) (by-tests d pair list true in') ∙ by-tests c pair (told_by_nodes d list) t is ∙ ap (λ (ps : List Pair). if t then pair ∷ ps else ps) rest ∙ sym (by-tests c pair list t is)
less-step c d pair list less rest false false is in' = ap (told_by_nodes c) (by-tests d pair list false in') ∙ rest ∙ sym (by-tests c pair list false is)
less-step c d pair list less rest true false is in' = absurd (let e : true ≡ false = sym (less (node_number pair.0.node) is) ∙ in' in cc)

pub by-less : (c d : ℕ → Bool) → ((n : ℕ) → c n ≡ true → d n ≡ true) → (list : List Pair) → told_by_nodes c (told_by_nodes d list) ≡ told_by_nodes c list
by-less c d less [] = refl
by-less c d less (pair ∷ list) = less-step c d pair list less (by-less c d less list) (c (node_number pair.0.node)) (d (node_number pair.0.node)) refl refl

all-step : (c : ℕ → Bool) (pair : Pair) (list : List Pair) → c (node_number pair.0.node) ≡ true → told_by_nodes c list ≡ list → told_by_nodes c (pair ∷ list) ≡ pair ∷ list
all-step c pair list is rest = rw is (ap (λ (l : List Pair). pair ∷ l) rest)

-- by tests that are the same
pub by-same : (c d : ℕ → Bool) → ((n : ℕ) → c n ≡ d n) → (list : List Pair) → told_by_nodes c list ≡ told_by_nodes d list
by-same c d same list = ap (λ (t : ℕ → Bool). told_by_nodes t list) (λ i n. same n i)

-- by a test that all pass
pub by-all : (c : ℕ → Bool) → ((m : ℕ) → c m ≡ true) → (list : List Pair) → told_by_nodes c list ≡ list
by-all c all [] = refl
by-all c all (pair ∷ list) = all-step c pair list (all (node_number pair.0.node)) (by-all c all list)

ids-step : (c : ℕ → Bool) (pair : Pair) (list : List Pair) → IsId pair.0 → HaveIds (told_by_nodes c list) → (t : Bool) → HaveIds (if t then pair ∷ told_by_nodes c list else told_by_nodes c list)
ids-step c pair list id rest true = (id, rest)
ids-step c pair list id rest false = rest

pub by-ids : (c : ℕ → Bool) (list : List Pair) → HaveIds list → HaveIds (told_by_nodes c list)
by-ids c [] all = all
by-ids c (pair ∷ list) all = ids-step c pair list all.0 (by-ids c list all.1) (c (node_number pair.0.node))

append-ids : (xs ys : List Pair) → HaveIds xs → HaveIds ys → HaveIds (xs ++ ys)
append-ids [] ys a b = b
append-ids (x ∷ xs) ys a b = (a.0, append-ids xs ys a.1 b)

joined-ids-step : (c : ℕ → Bool) (pair : Pair) (list : List Pair) → (HaveIds (told_by_nodes c list) → HaveIds (told_by_nodes (λ m. not (c m)) list) → HaveIds list) → (t : Bool) → c (node_number pair.0.node) ≡ t
    → HaveIds (if t then pair ∷ told_by_nodes c list else told_by_nodes c list) → HaveIds (if not t then pair ∷ told_by_nodes (λ m. not (c m)) list else told_by_nodes (λ m. not (c m)) list) → HaveIds (pair ∷ list)
joined-ids-step c pair list rest true is a b = (a.0, rest a.1 b)
joined-ids-step c pair list rest false is a b = (b.0, rest a b.1)

pub joined-ids : (c : ℕ → Bool) (list : List Pair) → HaveIds (told_by_nodes c list) → HaveIds (told_by_nodes (λ m. not (c m)) list) → HaveIds list
joined-ids c [] a b = a
joined-ids c (pair ∷ list) a b = joined-ids-step c pair list (joined-ids c list) (c (node_number pair.0.node)) refl a b

-- ---- what databases tell

told-ids-step : (pair : Pair) (entries : List Pair) → IsId pair.0 → HaveIds (told_in entries) → (t : Bool) → HaveIds (map told_pair (if t then pair ∷ live_of entries else live_of entries))
told-ids-step pair entries id rest true = (id, rest)
told-ids-step pair entries id rest false = rest

pub told-ids : (entries : List Pair) → HaveIds entries → HaveIds (told_in entries)
told-ids [] all = all
told-ids (pair ∷ entries) all = told-ids-step pair entries all.0 (told-ids entries all.1) (is_live pair.1)

pub weaker : (least more : ℕ) (list : List Pair) → least ≤ more → RisesFrom more list → RisesFrom least list
weaker least more [] le rises = rises
weaker least more (pair ∷ list) le rises = let first = rises.0 in (omega (arith, le, first), rises.1)

rises-step : (c : ℕ → Bool) (least : ℕ) (pair : Pair) (list : List Pair) → least ≤ pair_number pair → RisesFrom (pair_number pair + 1) (told_by_nodes c list) → (t : Bool) → RisesFrom least (if t then pair ∷ told_by_nodes c list else told_by_nodes c list)
rises-step c least pair list le rest true = (le, rest)
rises-step c least pair list le rest false = weaker least (pair_number pair + 1) (told_by_nodes c list) (omega (arith, le)) rest

pub by-rises : (c : ℕ → Bool) (least : ℕ) (list : List Pair) → RisesFrom least list → RisesFrom least (told_by_nodes c list)
by-rises c least [] rises = rises
by-rises c least (pair ∷ list) rises = rises-step c least pair list rises.0 (by-rises c (pair_number pair + 1) list rises.1) (c (node_number pair.0.node))

told-rises-step : (least : ℕ) (pair : Pair) (entries : List Pair) → least ≤ pair_number pair → RisesFrom (pair_number pair + 1) (told_in entries) → (t : Bool) → RisesFrom least (map told_pair (if t then pair ∷ live_of entries else live_of entries))
told-rises-step least pair entries le rest true = (le, rest)
told-rises-step least pair entries le rest false = weaker least (pair_number pair + 1) (told_in entries) (omega (arith, le)) rest

pub told-rises : (least : ℕ) (entries : List Pair) → RisesFrom least entries → RisesFrom least (told_in entries)
told-rises least [] rises = rises
told-rises least (pair ∷ entries) rises = told-rises-step least pair entries rises.0 (told-rises (pair_number pair + 1) entries rises.1) (is_live pair.1)

-- ---- a list in order is what stands before a node, at it and past it

none-from : (c : ℕ → Bool) (base least : ℕ) (list : List Pair) → RisesFrom least list → HaveIds list → base % 256 ≡ 0 → base ≤ least → ((m : ℕ) → base ≤ m → c m ≡ false) → told_by_nodes c list ≡ []
none-from c base least [] rises ids zero le none = refl
none-from c base least (pair ∷ list) rises ids zero le none =
    let s = stands pair.0 ids.0 in
    let first = rises.0 in let a = s.is in let b = s.small in let d = s.first in
    let past : base ≤ node_number pair.0.node = omega (arith, first, a, b, d, zero, le) in
    rw (none (node_number pair.0.node) past) (none-from c base (pair_number pair + 1) list rises.1 ids.1 zero (omega (arith, first, le)) none)

module _ (n : ℕ) where
  abbrev lt : ℕ → Bool
  lt m = nat_lt m n

  abbrev eq : ℕ → Bool
  eq m = m == n

  abbrev gt : ℕ → Bool
  gt m = nat_lt n m

  split-step : (least : ℕ) (pair : Pair) (list : List Pair) → Stands pair.0 → RisesFrom (pair_number pair + 1) list → HaveIds list → list ≡ told_by_nodes lt list ++ (told_by_nodes eq list ++ told_by_nodes gt list)
      → (node_number pair.0.node < n) ⊎ ((node_number pair.0.node ≡ n) ⊎ (n < node_number pair.0.node)) → pair ∷ list ≡ told_by_nodes lt (pair ∷ list) ++ (told_by_nodes eq (pair ∷ list) ++ told_by_nodes gt (pair ∷ list))
  split-step least pair list s rises ids rest (inl less) =
      let a : nat_lt (node_number pair.0.node) n ≡ true = grind (arith, nat_tests, less) in
      let b : (node_number pair.0.node == n) ≡ false = grind (arith, nat_tests, less) in
      let d : nat_lt n (node_number pair.0.node) ≡ false = grind (arith, nat_tests, less) in
      rw (a, b, d) (ap (λ (l : List Pair). pair ∷ l) rest)
  split-step least pair list s rises ids rest (inr (inl same)) =
      let a : nat_lt (node_number pair.0.node) n ≡ false = grind (arith, nat_tests, same) in
      let b : (node_number pair.0.node == n) ≡ true = grind (arith, nat_tests, same) in
      let d : nat_lt n (node_number pair.0.node) ≡ false = grind (arith, nat_tests, same) in
      let is = s.is in
      let none : told_by_nodes lt list ≡ [] = none-from lt (node_number pair.0.node) (pair_number pair + 1) list rises ids s.first (omega (arith, is)) (λ m le. grind (arith, nat_tests, same, le)) in
      rw (a, b, d, none) (ap (λ (l : List Pair). pair ∷ l) (rest ∙ ap (λ (l : List Pair). l ++ (told_by_nodes eq list ++ told_by_nodes gt list)) none))
  split-step least pair list s rises ids rest (inr (inr more)) =
      let a : nat_lt (node_number pair.0.node) n ≡ false = grind (arith, nat_tests, more) in
      let b : (node_number pair.0.node == n) ≡ false = grind (arith, nat_tests, more) in
      let d : nat_lt n (node_number pair.0.node) ≡ true = grind (arith, nat_tests, more) in
      let is = s.is in
      let none : told_by_nodes lt list ≡ [] = none-from lt (node_number pair.0.node) (pair_number pair + 1) list rises ids s.first (omega (arith, is)) (λ m le. grind (arith, nat_tests, more, le)) in
      let others : told_by_nodes eq list ≡ [] = none-from eq (node_number pair.0.node) (pair_number pair + 1) list rises ids s.first (omega (arith, is)) (λ m le. grind (arith, nat_tests, more, le)) in
      rw (a, b, d, none, others) (ap (λ (l : List Pair). pair ∷ l) (rest ∙ ap (λ (l : List Pair). l ++ (told_by_nodes eq list ++ told_by_nodes gt list)) none ∙ ap (λ (l : List Pair). l ++ told_by_nodes gt list) others))

  three : (m : ℕ) → (m < n) ⊎ ((m ≡ n) ⊎ (n < m))
  three m = grind arith

  pub split : (least : ℕ) (list : List Pair) → RisesFrom least list → HaveIds list → list ≡ told_by_nodes lt list ++ (told_by_nodes eq list ++ told_by_nodes gt list)
  split least [] rises ids = refl
  split least (pair ∷ list) rises ids = split-step least pair list (stands pair.0 ids.0) rises.1 ids.1 (split (pair_number pair + 1) list rises.1 ids.1) (three (node_number pair.0.node))

-- ---- what is told with a node's

pub three-by : (c : ℕ → Bool) (xs ys zs us vs ws : List Pair) → told_by_nodes c xs ≡ us → told_by_nodes c ys ≡ vs → told_by_nodes c zs ≡ ws → told_by_nodes c (xs ++ (ys ++ zs)) ≡ us ++ (vs ++ ws)
three-by c xs ys zs us vs ws e f g =
    let p = λ (pair : Pair). c (node_number pair.0.node) in
    filter-append p xs (ys ++ zs) ∙ ap (λ (l : List Pair). told_by_nodes c xs ++ l) (filter-append p ys zs)
    ∙ ap (λ (l : List Pair). l ++ (told_by_nodes c ys ++ told_by_nodes c zs)) e ∙ ap (λ (l : List Pair). us ++ (l ++ told_by_nodes c zs)) f ∙ ap (λ (l : List Pair). us ++ (vs ++ l)) g

eq-apart-lt : (n m : ℕ) → (nat_lt m n && (m == n)) ≡ false
eq-apart-lt n m = grind (arith, nat_tests)

eq-apart-gt : (n m : ℕ) → (nat_lt n m && (m == n)) ≡ false
eq-apart-gt n m = grind (arith, nat_tests)

eq-apart-ne : (n m : ℕ) → ((m == n) && not (m == n)) ≡ false
eq-apart-ne n m = grind (arith, nat_tests)

eq-within : (n m : ℕ) → (m == n) ≡ ((m == n) && (m == n))
eq-within n m = grind (arith, nat_tests)

lt-within : (n m : ℕ) → nat_lt m n ≡ (nat_lt m n && not (m == n))
lt-within n m = grind (arith, nat_tests)

gt-within : (n m : ℕ) → nat_lt n m ≡ (nat_lt n m && not (m == n))
gt-within n m = grind (arith, nat_tests)

lt-of-ne : (n m : ℕ) → nat_lt m n ≡ (not (m == n) && nat_lt m n)
lt-of-ne n m = grind (arith, nat_tests)

gt-of-ne : (n m : ℕ) → nat_lt n m ≡ (not (m == n) && nat_lt n m)
gt-of-ne n m = grind (arith, nat_tests)

module _ (node : NodeId) (old here : List Pair) where
  n : ℕ
  n = node_number node

  pub with-at : told_at node (told_with node old here) ≡ told_at node here
  unfolding told_with n
  with-at =
      three-by (λ m. m == n) (told_before node old) (told_at node here) (told_past node old) [] (told_at node here) []
      (by-apart (λ m. nat_lt m n) (λ m. m == n) (eq-apart-lt n) old) (by-within (λ m. m == n) (λ m. m == n) (eq-within n) here) (by-apart (λ m. nat_lt n m) (λ m. m == n) (eq-apart-gt n) old)
      ∙ append-nil (told_at node here)

  beside-three : (middle : List Pair) → told_beside node (told_before node old ++ (told_at node middle ++ told_past node old)) ≡ told_before node old ++ told_past node old
  unfolding n
  beside-three middle =
      three-by (λ m. not (m == n)) (told_before node old) (told_at node middle) (told_past node old) (told_before node old) [] (told_past node old)
      (by-within (λ m. nat_lt m n) (λ m. not (m == n)) (lt-within n) old) (by-apart (λ m. m == n) (λ m. not (m == n)) (eq-apart-ne n) middle) (by-within (λ m. nat_lt n m) (λ m. not (m == n)) (gt-within n) old)

  pub with-ids : HaveIds old → HaveIds here → HaveIds (told_with node old here)
  unfolding told_with
  with-ids a b =
      append-ids (told_before node old) (told_at node here ++ told_past node old) (by-ids (λ m. nat_lt m (node_number node)) old a)
      (append-ids (told_at node here) (told_past node old) (by-ids (λ m. m == node_number node) here b) (by-ids (λ m. nat_lt (node_number node) m) old a))

  module _ (rises : RisesFrom 0 old) (ids : HaveIds old) where
    whole : old ≡ told_before node old ++ (told_at node old ++ told_past node old)
    whole = split (node_number node) 0 old rises ids

    pub with-beside : told_beside node (told_with node old here) ≡ told_beside node old
    unfolding told_with
    with-beside = beside-three here ∙ sym (ap (told_beside node) whole ∙ beside-three old)

-- a list in which a node tells what it told is the same
pub with-same : (node : NodeId) (told here : List Pair) → RisesFrom 0 told → HaveIds told → told_at node here ≡ told_at node told → told_with node told here ≡ told
unfolding told_with
with-same node told here rises ids same =
    ap (λ (l : List Pair). told_before node told ++ (l ++ told_past node told)) same ∙ sym (split (node_number node) 0 told rises ids)

-- an outlook's list that moves so is what is told with the node's
pub is-with : (node : NodeId) (old new here : List Pair) → RisesFrom 0 new → HaveIds old → HaveIds here → told_beside node new ≡ told_beside node old → told_at node new ≡ here → new ≡ told_with node old here
unfolding told_with
is-with node old new here rises old-ids here-ids others at =
    let n = node_number node in
    let ids : HaveIds new = joined-ids (λ m. m == n) new (subst HaveIds (sym at) here-ids) (subst HaveIds (sym others) (by-ids (λ m. not (m == n)) old old-ids)) in
    let before : told_before node new ≡ told_before node old =
    sym (by-by (λ m. not (m == n)) (λ m. nat_lt m n) (λ m. nat_lt m n) (lt-of-ne n) new) ∙ ap (told_by_nodes (λ m. nat_lt m n)) others ∙ by-by (λ m. not (m == n)) (λ m. nat_lt m n) (λ m. nat_lt m n) (lt-of-ne n) old in
    let past : told_past node new ≡ told_past node old =
    sym (by-by (λ m. not (m == n)) (λ m. nat_lt n m) (λ m. nat_lt n m) (gt-of-ne n) new) ∙ ap (told_by_nodes (λ m. nat_lt n m)) others ∙ by-by (λ m. not (m == n)) (λ m. nat_lt n m) (λ m. nat_lt n m) (gt-of-ne n) old in
    let middle : told_at node new ≡ told_at node here = sym (by-within (λ m. m == n) (λ m. m == n) (eq-within n) new) ∙ ap (told_at node) at in
    split n 0 new rises ids
    ∙ ap (λ (l : List Pair). l ++ (told_at node new ++ told_past node new)) before
    ∙ ap (λ (l : List Pair). told_before node old ++ (l ++ told_past node new)) middle
    ∙ ap (λ (l : List Pair). told_before node old ++ (told_at node here ++ l)) past

-- ---- two lists that tell the same of some nodes

module _ (c : ℕ → Bool) (a b : List Pair) (a-ids : HaveIds a) (b-ids : HaveIds b) (same : told_by_nodes c a ≡ told_by_nodes c b) where
  pub lead-same : (node : NodeId) → node_number node % 256 ≡ 0 → c (node_number node) ≡ true → lead_of a node ≡ lead_of b node
  lead-same node zero kept = lead-by c a a-ids node zero kept ∙ ap (λ (l : List Pair). lead_of l node) same ∙ sym (lead-by c b b-ids node zero kept)

  pub reach-same : (system : SystemId) → IsId (record { node = own_node system; number = 255 }) → c (node_number (own_node system)) ≡ true → reach_in a system ≡ reach_in b system
  reach-same system id kept = reach-by c a a-ids system id kept ∙ ap (λ (l : List Pair). reach_in l system) same ∙ sym (reach-by c b b-ids system id kept)
