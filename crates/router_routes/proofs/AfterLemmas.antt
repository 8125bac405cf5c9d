-- What is told where some nodes tell something else, one after another.
use Rattle.std.proofs.Common.{◌≡◌, ◌∙◌, ℕ, ◌+◌, ◌%◌, ◌<◌, ◌≤◌, Bool, true, false, not, List, [], ◌∷◌, ◌++◌, refl, sym, ap, arith, if◌then◌else◌, ◌&&◌, ◌||◌, ◌==◌}
use Rattle.std.specs.Prelude.{nat_lt}
use Rattle.std.specs.List.{AllByRecursion}
use Rattle.std.proofs.lemmas.Bool.Decides.{nat_tests}
use Rattle.isis_base.specs.declared.identifiers.NodeId.{NodeId}
use Rattle.isis_base.specs.declared.identifiers.LspId.{LspId}
use Rattle.isis_base.specs.Identifiers.{IsId}
use Rattle.lsp_store.specs.declared.entry.Entry.{Entry}
use Rattle.lsp_store.specs.Maps.{pair_number, RisesFrom}
use Rattle.spf_tree.specs.Nodes.{node_number}
use Rattle.spf_tree.proofs.SearchLemmas.{contains_first, contains_rest}
use Rattle.router_routes.specs.Moved.{told_by_nodes, told_at, told_beside, told_before, told_past, told_with, told_after, is_among, is_beside, AreNodes, HaveIds}
use Rattle.std.proofs.lemmas.List.Folds.{list_any-append}
use Rattle.router_routes.specs.Kept.{AreAmong}
use Rattle.router_routes.proofs.IdLemmas.{stands}
use Rattle.router_routes.proofs.MovedLemmas.{by-by, by-apart, by-ids, three-by, weaker, with-ids, is-with, by-less, by-all, by-rises}

abbrev Pair : Type 0
Pair = LspId × Entry

-- ---- two tests in either order

and-turned : (a b : Bool) → (b && a) ≡ (a && b)
and-turned true true = refl
and-turned true false = refl
and-turned false true = refl
and-turned false false = refl

by-turned : (c d : ℕ → Bool) (list : List Pair) → told_by_nodes c (told_by_nodes d list) ≡ told_by_nodes d (told_by_nodes c list)
by-turned c d list =
    by-by d c (λ m. d m && c m) (λ m. refl) list
    ∙ sym (by-by c d (λ m. d m && c m) (λ m. and-turned (c m) (d m)) list)

with-turned : (c : ℕ → Bool) (node : NodeId) (old here : List Pair) → told_by_nodes c (told_with node old here) ≡ told_with node (told_by_nodes c old) (told_by_nodes c here)
unfolding told_with
with-turned c node old here =
    three-by c (told_before node old) (told_at node here) (told_past node old) _ _ _
    (by-turned c (λ m. nat_lt m (node_number node)) old) (by-turned c (λ m. m == node_number node) here) (by-turned c (λ m. nat_lt (node_number node) m) old)

-- of what is told then, those of some nodes
after-turned : (c : ℕ → Bool) (nodes : List NodeId) (old here : List Pair) → told_by_nodes c (told_after nodes old here) ≡ told_after nodes (told_by_nodes c old) (told_by_nodes c here)
after-turned c [] old here = refl
after-turned c (node ∷ nodes) old here =
    with-turned c node (told_after nodes old here) here
    ∙ ap (λ (l : List Pair). told_with node l (told_by_nodes c here)) (after-turned c nodes old here)

-- ---- the only list that tells so

none-of : (n : ℕ) → is_beside [] n ≡ true
none-of n = refl

turned : (a b : ℕ) → (a == b) ≡ (b == a)
turned a b = grind (arith, nat_tests)

beside-both : (a u : Bool) → not (a || u) ≡ (not a && not u)
beside-both true u = refl
beside-both false u = refl

beside-cons : (node : NodeId) (nodes : List NodeId) (m : ℕ) → is_beside (node ∷ nodes) m ≡ (not (m == node_number node) && is_beside nodes m)
beside-cons node nodes m = beside-both (node_number node == m) (is_among nodes m) ∙ ap (λ (t : Bool). not t && is_beside nodes m) (turned (node_number node) m)

both-among : (a b u : Bool) → (not b && u) ≡ true → (a || u) ≡ true
both-among true b u is = refl
both-among false true u is = absurd (let e : false ≡ true = is in cc)
both-among false false u is = is

at-among : (a u : Bool) → a ≡ true → (a || u) ≡ true
at-among true u is = refl
at-among false u is = absurd (let e : false ≡ true = is in cc)

at-less : (node : NodeId) (nodes : List NodeId) (m : ℕ) → (m == node_number node) ≡ true → is_among (node ∷ nodes) m ≡ true
at-less node nodes m is = at-among (node_number node == m) (is_among nodes m) (turned (node_number node) m ∙ is)

beside-less : (node : NodeId) (nodes : List NodeId) (m : ℕ) → (not (m == node_number node) && is_among nodes m) ≡ true → is_among (node ∷ nodes) m ≡ true
beside-less node nodes m is = both-among (node_number node == m) (m == node_number node) (is_among nodes m) is

abbrev ne : NodeId → ℕ → Bool
ne node m = not (m == node_number node)

-- of those of some nodes more, those of the nodes beside one
among-part : (node : NodeId) (nodes : List NodeId) (list : List Pair) → told_by_nodes (is_among nodes) (told_beside node list) ≡ told_by_nodes (λ m. ne node m && is_among nodes m) (told_by_nodes (is_among (node ∷ nodes)) list)
among-part node nodes list =
    by-by (ne node) (is_among nodes) (λ m. ne node m && is_among nodes m) (λ m. refl) list
    ∙ sym (by-less (λ m. ne node m && is_among nodes m) (is_among (node ∷ nodes)) (beside-less node nodes) list)

beside-part : (node : NodeId) (nodes : List NodeId) (list : List Pair) → told_by_nodes (is_beside nodes) (told_beside node list) ≡ told_by_nodes (is_beside (node ∷ nodes)) list
beside-part node nodes list = by-by (ne node) (is_beside nodes) (is_beside (node ∷ nodes)) (beside-cons node nodes) list

at-part : (node : NodeId) (nodes : List NodeId) (list : List Pair) → told_at node (told_by_nodes (is_among (node ∷ nodes)) list) ≡ told_at node list
at-part node nodes list = by-less (λ m. m == node_number node) (is_among (node ∷ nodes)) (at-less node nodes) list

at-twice : (node : NodeId) (list : List Pair) → told_at node (told_at node list) ≡ told_at node list
at-twice node list = by-less (λ m. m == node_number node) (λ m. m == node_number node) (λ m is. is) list

with-at-alone : (node : NodeId) (old here : List Pair) → told_with node old (told_at node here) ≡ told_with node old here
unfolding told_with
with-at-alone node old here = ap (λ (l : List Pair). told_before node old ++ (l ++ told_past node old)) (at-twice node here)

pub after-ids : (nodes : List NodeId) (old here : List Pair) → HaveIds old → HaveIds here → HaveIds (told_after nodes old here)
after-ids [] old here a b = a
after-ids (node ∷ nodes) old here a b = with-ids node (told_after nodes old here) here (after-ids nodes old here a b) b

pub only-after : (nodes : List NodeId) (old here new : List Pair) → RisesFrom 0 new → HaveIds old → HaveIds here
    → told_by_nodes (is_beside nodes) new ≡ told_by_nodes (is_beside nodes) old → told_by_nodes (is_among nodes) new ≡ told_by_nodes (is_among nodes) here → new ≡ told_after nodes old here
only-after [] old here new rises ids here-ids others at = sym (by-all (is_beside []) none-of new) ∙ others ∙ by-all (is_beside []) none-of old
only-after (node ∷ nodes) old here new rises ids here-ids others at =
    let rest =
    only-after nodes (told_beside node old) (told_beside node here) (told_beside node new) (by-rises (ne node) 0 new rises) (by-ids (ne node) old ids) (by-ids (ne node) here here-ids)
    (beside-part node nodes new ∙ others ∙ sym (beside-part node nodes old))
    (among-part node nodes new ∙ ap (told_by_nodes (λ m. ne node m && is_among nodes m)) at ∙ sym (among-part node nodes here))
    ∙ sym (after-turned (ne node) nodes old here) in
    let its = sym (at-part node nodes new) ∙ ap (told_at node) at ∙ at-part node nodes here in
    is-with node (told_after nodes old here) new (told_at node here) rises (after-ids nodes old here ids here-ids) (by-ids (λ m. m == node_number node) here here-ids) rest its
    ∙ with-at-alone node (told_after nodes old here) here

-- ---- what others tell, and what these do

apart-both : (t : Bool) → (t && not t) ≡ false
apart-both true = refl
apart-both false = refl

apart-turned : (t : Bool) → (not t && t) ≡ false
apart-turned true = refl
apart-turned false = refl

module _ (nodes : List NodeId) (old here : List Pair) (ids : HaveIds old) (here-ids : HaveIds here) where
  none-among : (list : List Pair) → told_by_nodes (is_among nodes) (told_by_nodes (is_beside nodes) list) ≡ []
  none-among list = by-apart (is_beside nodes) (is_among nodes) (λ m. apart-turned (is_among nodes m)) list

  none-beside : (list : List Pair) → told_by_nodes (is_beside nodes) (told_by_nodes (is_among nodes) list) ≡ []
  none-beside list = by-apart (is_among nodes) (is_beside nodes) (λ m. apart-both (is_among nodes m)) list

  pub after-beside : RisesFrom 0 old → told_by_nodes (is_beside nodes) (told_after nodes old here) ≡ told_by_nodes (is_beside nodes) old
  after-beside rises =
      let x = told_by_nodes (is_beside nodes) old in
      let y = told_by_nodes (is_beside nodes) here in
      after-turned (is_beside nodes) nodes old here
      ∙ sym (only-after nodes x y x (by-rises (is_beside nodes) 0 old rises) (by-ids (is_beside nodes) old ids) (by-ids (is_beside nodes) here here-ids) refl (none-among old ∙ sym (none-among here)))

  pub after-among : RisesFrom 0 here → told_by_nodes (is_among nodes) (told_after nodes old here) ≡ told_by_nodes (is_among nodes) here
  after-among rises =
      let x = told_by_nodes (is_among nodes) old in
      let y = told_by_nodes (is_among nodes) here in
      after-turned (is_among nodes) nodes old here
      ∙ sym (only-after nodes x y y (by-rises (is_among nodes) 0 here rises) (by-ids (is_among nodes) old ids) (by-ids (is_among nodes) here here-ids) (none-beside here ∙ sym (none-beside old)) refl)

-- of one node that is one of them, or is none
node-among-step : (node : NodeId) (nodes : List NodeId) → is_among nodes (node_number node) ≡ true → (m : ℕ) → (m == node_number node) ≡ true → is_among nodes m ≡ true
node-among-step node nodes is m same = (let e : m ≡ node_number node = grind (arith, nat_tests, same) in ap (is_among nodes) e ∙ is)

node-beside-step : (node : NodeId) (nodes : List NodeId) → is_among nodes (node_number node) ≡ false → (m : ℕ) → (m == node_number node) ≡ true → is_beside nodes m ≡ true
node-beside-step node nodes is m same = (let e : m ≡ node_number node = grind (arith, nat_tests, same) in ap (is_beside nodes) e ∙ ap not is)

module _ (nodes : List NodeId) (old here : List Pair) (ids : HaveIds old) (here-ids : HaveIds here) (node : NodeId) where
  pub at-here : RisesFrom 0 here → is_among nodes (node_number node) ≡ true → told_at node here ≡ told_at node (told_after nodes old here)
  at-here rises is =
      let less = node-among-step node nodes is in
      sym (by-less (λ m. m == node_number node) (is_among nodes) less here) ∙ ap (told_at node) (sym (after-among nodes old here ids here-ids rises))
      ∙ by-less (λ m. m == node_number node) (is_among nodes) less (told_after nodes old here)

  pub at-old : RisesFrom 0 old → is_among nodes (node_number node) ≡ false → told_at node old ≡ told_at node (told_after nodes old here)
  at-old rises is =
      let less = node-beside-step node nodes is in
      sym (by-less (λ m. m == node_number node) (is_beside nodes) less old) ∙ ap (told_at node) (sym (after-beside nodes old here ids here-ids rises))
      ∙ by-less (λ m. m == node_number node) (is_beside nodes) less (told_after nodes old here)

-- ---- what is told then stands in order

abbrev Below : ℕ → List Pair → Type 0
Below base list = AllByRecursion (λ (pair : Pair). pair_number pair < base) list

join-rises : (least base : ℕ) (xs ys : List Pair) → least ≤ base → RisesFrom least xs → Below base xs → RisesFrom base ys → RisesFrom least (xs ++ ys)
join-rises least base [] ys le a b c = weaker least base ys le c
join-rises least base (x ∷ xs) ys le a b c = let lt = b.0 in (a.0, join-rises (pair_number x + 1) base xs ys (omega (arith, lt)) a.1 b.1 c)

from-step : (c : ℕ → Bool) (base least : ℕ) (pair : Pair) (list : List Pair) → IsId pair.0 → ((m : ℕ) → m % 256 ≡ 0 → c m ≡ true → base ≤ m) → RisesFrom base (told_by_nodes c list) → RisesFrom (pair_number pair + 1) (told_by_nodes c list) → (t : Bool) → c (node_number pair.0.node) ≡ t
    → RisesFrom base (if t then pair ∷ told_by_nodes c list else told_by_nodes c list)
from-step c base least pair list id from rest more true is =
    let s = stands pair.0 id in let a = s.is in
    let b = from (node_number pair.0.node) s.first is in
    (omega (arith, a, b), more)
from-step c base least pair list id from rest more false is = rest

from-rises : (c : ℕ → Bool) (base least : ℕ) (list : List Pair) → ((m : ℕ) → m % 256 ≡ 0 → c m ≡ true → base ≤ m) → RisesFrom least list → HaveIds list → RisesFrom base (told_by_nodes c list)
from-rises c base least [] from rises ids = tt
from-rises c base least (pair ∷ list) from rises ids =
    from-step c base least pair list ids.0 from (from-rises c base (pair_number pair + 1) list from rises.1 ids.1) (by-rises c (pair_number pair + 1) list rises.1) (c (node_number pair.0.node)) refl

below-step : (c : ℕ → Bool) (base : ℕ) (pair : Pair) (list : List Pair) → IsId pair.0 → ((m : ℕ) → m % 256 ≡ 0 → c m ≡ true → m + 255 < base) → Below base (told_by_nodes c list) → (t : Bool) → c (node_number pair.0.node) ≡ t → Below base (if t then pair ∷ told_by_nodes c list else told_by_nodes c list)
below-step c base pair list id under rest true is =
    let s = stands pair.0 id in let a = s.is in let small = s.small in
    let b = under (node_number pair.0.node) s.first is in
    (omega (arith, a, b, small), rest)
below-step c base pair list id under rest false is = rest

below-by : (c : ℕ → Bool) (base : ℕ) (list : List Pair) → ((m : ℕ) → m % 256 ≡ 0 → c m ≡ true → m + 255 < base) → HaveIds list → Below base (told_by_nodes c list)
below-by c base [] under ids = tt
below-by c base (pair ∷ list) under ids = below-step c base pair list ids.0 under (below-by c base list under ids.1) (c (node_number pair.0.node)) refl

under-lt : (n m : ℕ) → n % 256 ≡ 0 → m % 256 ≡ 0 → nat_lt m n ≡ true → m + 255 < n
under-lt n m a b is = grind (arith, nat_tests, a, b, is)

under-eq : (n m : ℕ) → (m == n) ≡ true → m + 255 < n + 256
under-eq n m is = grind (arith, nat_tests, is)

from-eq : (n m : ℕ) → (m == n) ≡ true → n ≤ m
from-eq n m is = grind (arith, nat_tests, is)

from-gt : (n m : ℕ) → n % 256 ≡ 0 → m % 256 ≡ 0 → nat_lt n m ≡ true → n + 256 ≤ m
from-gt n m a b is = grind (arith, nat_tests, a, b, is)

pub with-rises : (node : NodeId) (old here : List Pair) → IsId (record { node = node; number = 0 }) → HaveIds old → HaveIds here → RisesFrom 0 old → RisesFrom 0 here → RisesFrom 0 (told_with node old here)
unfolding told_with
with-rises node old here id ids here-ids rises here-rises =
    let n = node_number node in
    let s = stands (record { node = node; number = 0 }) id in
    let zero = s.first in
    let past = from-rises (λ m. nat_lt n m) (n + 256) 0 old (λ m b is. from-gt n m zero b is) rises ids in
    let its = from-rises (λ m. m == n) n 0 here (λ m b is. from-eq n m is) here-rises here-ids in
    let both = join-rises n (n + 256) (told_at node here) (told_past node old) (omega arith) its (below-by (λ m. m == n) (n + 256) here (λ m b is. under-eq n m is) here-ids) past in
    join-rises 0 n (told_before node old) (told_at node here ++ told_past node old) (omega arith) (by-rises (λ m. nat_lt m n) 0 old rises) (below-by (λ m. nat_lt m n) n old (λ m b is. under-lt n m zero b is) ids) both

pub after-rises : (nodes : List NodeId) (old here : List Pair) → AreNodes nodes → HaveIds old → HaveIds here → RisesFrom 0 old → RisesFrom 0 here → RisesFrom 0 (told_after nodes old here)
after-rises [] old here are ids here-ids rises here-rises = rises
after-rises (node ∷ nodes) old here are ids here-ids rises here-rises =
    with-rises node (told_after nodes old here) here (are node (contains_first node nodes)) (after-ids nodes old here ids here-ids) here-ids
    (after-rises nodes old here (λ m there. are m (contains_rest node m nodes there)) ids here-ids rises here-rises) here-rises

-- ---- more nodes may have moved
not-true : (t : Bool) → not t ≡ true → t ≡ false
not-true true e = absurd (let f : false ≡ true = e in cc)
not-true false e = refl

among-step : (t u : Bool) → (t ≡ true → u ≡ true) → not u ≡ true → not t ≡ true
among-step true u more beside = absurd (let e : true ≡ false = sym (more refl) ∙ not-true u beside in cc)
among-step false u more beside = refl

pub list-more : (some all : List NodeId) (told later : List Pair) → AreAmong some all → told_by_nodes (is_beside some) told ≡ told_by_nodes (is_beside some) later → told_by_nodes (is_beside all) told ≡ told_by_nodes (is_beside all) later
list-more some all told later more same =
    let less = λ (n : ℕ). among-step (is_among some n) (is_among all n) (more n) in
    sym (by-less (is_beside all) (is_beside some) less told) ∙ ap (told_by_nodes (is_beside all)) same ∙ by-less (is_beside all) (is_beside some) less later

any-or : (t u : Bool) → t ≡ true → (t || u) ≡ true
any-or true u is = refl
any-or false u is = absurd (let e : false ≡ true = is in cc)

or-any : (t u : Bool) → u ≡ true → (t || u) ≡ true
or-any true u is = refl
or-any false u is = is

pub among-left : (xs ys : List NodeId) → AreAmong xs (xs ++ ys)
among-left xs ys n is = list_any-append (λ (node : NodeId). node_number node == n) xs ys ∙ any-or (is_among xs n) (is_among ys n) is

pub among-right : (xs ys : List NodeId) → AreAmong ys (xs ++ ys)
among-right xs ys n is = list_any-append (λ (node : NodeId). node_number node == n) xs ys ∙ or-any (is_among xs n) (is_among ys n) is
