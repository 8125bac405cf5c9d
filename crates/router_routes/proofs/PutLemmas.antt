-- What is told where an entry takes the place of what is held of an LSP ID.
use Rattle.std.proofs.Common.{◌≡◌, ◌∙◌, ℕ, ◌+◌, ◌<◌, ◌==◌, ◌&&◌, nat_le, nat_lt, Bool, true, false, List, [], ◌∷◌, refl, sym, ap, subst, arith, if◌then◌else◌}
use Rattle.std.specs.List.{AllByRecursion}
use Rattle.std.proofs.lemmas.Bool.{eq-eqb, eqb-true}
use Rattle.std.proofs.lemmas.Bool.Decides.{nat_tests}
use Rattle.isis_base.specs.declared.identifiers.NodeId.{NodeId}
use Rattle.isis_base.specs.declared.identifiers.LspId.{LspId}
use Rattle.isis_base.specs.declared.level.Level.{Level}
use Rattle.isis_base.specs.Identifiers.{IsId, lsp_number}
use Rattle.isis_base.proofs.ArrayLemmas.{lsp_number-one}
use Rattle.model_router.specs.Both.{at}
use Rattle.lsp_store.specs.declared.entry.Entry.{Entry}
use Rattle.lsp_store.specs.Databases as store
use Rattle.lsp_store.specs.Maps.{RisesFrom, pair_number, put, between}
use Rattle.lsp_store.specs.Places.{AllAbove}
use Rattle.lsp_store.proofs.MapLemmas.{rises-above, put-above, erase-above, put-rises}
use Rattle.lsp_view.specs.Views.{number_of}
use Rattle.lsp_view.specs.Lsps.{node_with}
use Rattle.lsp_view.proofs.NodeLemmas.{between-put, first-is, split, within}
use Rattle.spf_tree.specs.Nodes.{node_number}
use Rattle.router_routes.specs.declared.lent.Lent.{Lent}
use Rattle.router_routes.specs.Told.{told, told_pair, told_in}
use Rattle.router_routes.specs.Outlooks.{Outlook, outlook_in}
use Rattle.router_routes.specs.Moved.{told_at, told_beside, told_put, IsMovedAt, IsPutAt}
use Rattle.router_routes.proofs.MovedLemmas.{told-rises}

abbrev Entries : Type 0
Entries = List (LspId × Entry)

abbrev is_at : NodeId → LspId × Entry → Bool
is_at node pair = node_number pair.0.node == node_number node

-- ---- what others tell stays

module _ (node : NodeId) where
  skip : (x : LspId × Entry) (xs : Entries) → is_at node x ≡ true → told_beside node (told_in (x ∷ xs)) ≡ told_beside node (told_in xs)
  skip x xs here = by-test (store.is_live x.1) refl
    where
      by-test : (t : Bool) → store.is_live x.1 ≡ t → told_beside node (told_in (x ∷ xs)) ≡ told_beside node (told_in xs)
      by-test true h = rw (h, here) refl
      by-test false h = rw h refl

  keep : (x : LspId × Entry) (xs ys : Entries) → told_beside node (told_in xs) ≡ told_beside node (told_in ys) → told_beside node (told_in (x ∷ xs)) ≡ told_beside node (told_in (x ∷ ys))
  keep x xs ys rest = by-tests (store.is_live x.1) (is_at node x) refl refl
    where
      by-tests : (t u : Bool) → store.is_live x.1 ≡ t → is_at node x ≡ u → told_beside node (told_in (x ∷ xs)) ≡ told_beside node (told_in (x ∷ ys))
      by-tests true true h k = rw (h, k) rest
      by-tests true false h k = rw (h, k) (ap (λ (l : Entries). told_pair x ∷ l) rest)
      by-tests false u h k = rw h rest

module _ (id : LspId) (e : Entry) (is : IsId id) (x : LspId × Entry) (xs : Entries) (other : IsId x.0) (rest : told_beside id.node (told_in (put xs id e)) ≡ told_beside id.node (told_in xs)) where
  beside-step : (a b : Bool) → (pair_number x == lsp_number id) ≡ a → nat_lt (lsp_number id) (pair_number x) ≡ b → told_beside id.node (told_in (put (x ∷ xs) id e)) ≡ told_beside id.node (told_in (x ∷ xs))
  beside-step true b p q =
      let own : is_at id.node (id, e) ≡ true = eq-eqb (node_number id.node) (node_number id.node) refl in
      let one : x.0 ≡ id = lsp_number-one x.0 id other is (eqb-true (pair_number x) (lsp_number id) p) in
      let here : is_at id.node x ≡ true = eq-eqb (node_number x.0.node) (node_number id.node) (ap (λ (i : LspId). node_number i.node) one) in
      rw p (skip id.node (id, e) xs own ∙ sym (skip id.node x xs here))
  beside-step false true p q = rw (p, q) (skip id.node (id, e) (x ∷ xs) (eq-eqb (node_number id.node) (node_number id.node) refl))
  beside-step false false p q = rw (p, q) (keep id.node x (put xs id e) xs rest)

pub beside-put : (id : LspId) (e : Entry) (xs : Entries) → IsId id → AllByRecursion (λ (p : LspId × Entry). IsId p.0) xs → told_beside id.node (told_in (put xs id e)) ≡ told_beside id.node (told_in xs)
beside-put id e [] is ids = skip id.node (id, e) [] (eq-eqb (node_number id.node) (node_number id.node) refl)
beside-put id e (x ∷ xs) is ids = beside-step id e is x xs ids.0 (beside-put id e xs is ids.1) (pair_number x == lsp_number id) (nat_lt (lsp_number id) (pair_number x)) refl refl

-- ---- what its node tells

-- the LSPs of an LSP ID's node are those between its first and last
in-node : (id : LspId) (x : LspId × Entry) → IsId id → IsId x.0 → (nat_le (number_of id.node 0) (pair_number x) && nat_le (pair_number x) (number_of id.node 255)) ≡ is_at id.node x
in-node id x is other =
    let a = split id is in
    let b = split x.0 other in
    rw (first-is id.node, b.number, a.last) (within (node_number id.node) (node_number x.0.node) x.0.number a.whole b.whole b.small)

module _ (id : LspId) (is : IsId id) (x : LspId × Entry) (xs : Entries) (other : IsId x.0) (rest : told_at id.node (told_in xs) ≡ told_in (between (number_of id.node 0) (number_of id.node 255) xs)) where
  at-step : (t u : Bool) → store.is_live x.1 ≡ t → is_at id.node x ≡ u → told_at id.node (told_in (x ∷ xs)) ≡ told_in (between (number_of id.node 0) (number_of id.node 255) (x ∷ xs))
  at-step true true h k = let w = in-node id x is other ∙ k in rw (h, k, w, h) (ap (λ (l : Entries). told_pair x ∷ l) rest)
  at-step true false h k = let w = in-node id x is other ∙ k in rw (h, k, w) rest
  at-step false true h k = let w = in-node id x is other ∙ k in rw (h, w, h) rest
  at-step false false h k = let w = in-node id x is other ∙ k in rw (h, w) rest

at-between : (id : LspId) (xs : Entries) → IsId id → AllByRecursion (λ (p : LspId × Entry). IsId p.0) xs → told_at id.node (told_in xs) ≡ told_in (between (number_of id.node 0) (number_of id.node 255) xs)
at-between id [] is ids = refl
at-between id (x ∷ xs) is ids = at-step id is x xs ids.0 (at-between id xs is ids.1) (store.is_live x.1) (is_at id.node x) refl refl

pub here-put : (id : LspId) (e : Entry) (xs : Entries) → IsId id → AllByRecursion (λ (p : LspId × Entry). IsId p.0) (put xs id e) → RisesFrom 0 xs → told_at id.node (told_in (put xs id e)) ≡ told_in (put (between (number_of id.node 0) (number_of id.node 255) xs) id e)
here-put id e xs is ids rises =
    at-between id (put xs id e) is ids
    ∙ ap told_in (between-put (number_of id.node 0) (number_of id.node 255) id e 0 xs (in-node id (id, e) is is ∙ eq-eqb (node_number id.node) (node_number id.node) refl) rises)

put-id-if : (id : LspId) (e : Entry) (x : LspId × Entry) (xs ys : Entries) (a b : Bool) → IsId id → IsId x.0 → AllByRecursion (λ (p : LspId × Entry). IsId p.0) xs → AllByRecursion (λ (p : LspId × Entry). IsId p.0) ys → AllByRecursion (λ (p : LspId × Entry). IsId p.0) (if a then (id, e) ∷ xs else (if b then (id, e) ∷ x ∷ xs else x ∷ ys))
put-id-if id e x xs ys true b is own ids rest = (is, ids)
put-id-if id e x xs ys false true is own ids rest = (is, (own, ids))
put-id-if id e x xs ys false false is own ids rest = (own, rest)

pub put-ids : (id : LspId) (e : Entry) (xs : Entries) → IsId id → AllByRecursion (λ (p : LspId × Entry). IsId p.0) xs → AllByRecursion (λ (p : LspId × Entry). IsId p.0) (put xs id e)
put-ids id e [] is ids = (is, tt)
put-ids id e (x ∷ xs) is ids = put-id-if id e x xs (put xs id e) (pair_number x == lsp_number id) (nat_lt (lsp_number id) (pair_number x)) is ids.0 ids.1 (put-ids id e xs is ids.1)

-- ---- as a list

module _ (id : LspId) (e : Entry) (x : LspId × Entry) (xs : Entries) (rises : RisesFrom (pair_number x + 1) xs) (rest : told_in (put xs id e) ≡ told_put (told_in xs) id e) where
  above : lsp_number id < pair_number x + 1 → AllAbove (lsp_number id) (told_in xs)
  above less = rises-above (lsp_number id) (pair_number x + 1) (told_in xs) less (told-rises (pair_number x + 1) xs rises)

  put-step : (a b t u : Bool) → (pair_number x == lsp_number id) ≡ a → nat_lt (lsp_number id) (pair_number x) ≡ b → store.is_live e ≡ t → store.is_live x.1 ≡ u → told_in (put (x ∷ xs) id e) ≡ told_put (told_in (x ∷ xs)) id e
  put-step true b true true p q r s = rw (p, r, s, p) refl
  put-step true b false true p q r s = rw (p, r, s, p) refl
  put-step true b true false p q r s =
      let same = eqb-true (pair_number x) (lsp_number id) p in
      rw (p, r, s) (sym (put-above id (told e.flags e.octets) [] (told_in xs) (above (omega (arith, same)))))
  put-step true b false false p q r s =
      let same = eqb-true (pair_number x) (lsp_number id) p in
      rw (p, r, s) (sym (erase-above (lsp_number id) [] (told_in xs) (above (omega (arith, same)))))
  put-step false true true true p q r s = rw (p, q, r, s, p, q) refl
  put-step false true false true p q r s =
      let less : lsp_number id < pair_number x = grind (arith, nat_tests, q) in
      rw (p, q, r, s, p) (ap (λ (l : Entries). told_pair x ∷ l) (sym (erase-above (lsp_number id) [] (told_in xs) (above (omega (arith, less))))))
  put-step false true true false p q r s =
      let less : lsp_number id < pair_number x = grind (arith, nat_tests, q) in
      rw (p, q, r, s) (sym (put-above id (told e.flags e.octets) [] (told_in xs) (above (omega (arith, less)))))
  put-step false true false false p q r s =
      let less : lsp_number id < pair_number x = grind (arith, nat_tests, q) in
      rw (p, q, r, s) (sym (erase-above (lsp_number id) [] (told_in xs) (above (omega (arith, less)))))
  put-step false false true true p q r s = rw (p, q, r, s, p, q) (ap (λ (l : Entries). told_pair x ∷ l) (rest ∙ rw r refl))
  put-step false false false true p q r s = rw (p, q, r, s, p) (ap (λ (l : Entries). told_pair x ∷ l) (rest ∙ rw r refl))
  put-step false false true false p q r s = rw (p, q, r, s) (rest ∙ rw r refl)
  put-step false false false false p q r s = rw (p, q, r, s) (rest ∙ rw r refl)

-- what is told once an entry is put, of what was told
pub told-put : (id : LspId) (e : Entry) (least : ℕ) (xs : Entries) → RisesFrom least xs → told_in (put xs id e) ≡ told_put (told_in xs) id e
told-put id e least [] rises = by (store.is_live e) refl
  where
    by : (t : Bool) → store.is_live e ≡ t → told_in ((id, e) ∷ []) ≡ told_put [] id e
    by true r = rw r refl
    by false r = rw r refl
told-put id e least (x ∷ xs) rises = put-step id e x xs rises.1 (told-put id e (pair_number x + 1) xs rises.1) (pair_number x == lsp_number id) (nat_lt (lsp_number id) (pair_number x)) (store.is_live e) (store.is_live x.1) refl refl refl refl

-- where an entry is put its node tells what is read of it, and others tell what they told
pub put-moved : (old new : Outlook) (l : Level) (id : LspId) (e : Entry) (entries : Entries) → IsPutAt old new l id e → at old.told l ≡ told_in entries → IsId id → AllByRecursion (λ (p : LspId × Entry). IsId p.0) entries → RisesFrom 0 entries → IsMovedAt old new l id.node (told_in (node_with entries id e))
unfolding node_with
put-moved old new l id e entries p held is ids rises =
    let told-then : at new.told l ≡ told_in (put entries id e) = p.here ∙ ap (λ (t : Entries). told_put t id e) held ∙ sym (told-put id e 0 entries rises) in
    record {
      root = p.root;
      areas = p.areas;
      runs = p.runs;
      prefixes = p.prefixes;
      run = p.run;
      other = p.other;
      others = ap (told_beside id.node) told-then ∙ beside-put id e entries is ids ∙ sym (ap (told_beside id.node) held);
      here = ap (told_at id.node) told-then ∙ here-put id e entries is (put-ids id e entries is ids) rises;
      rises = subst (RisesFrom 0) (sym told-then) (told-rises 0 (put entries id e) (put-rises entries 0 id e (omega arith) rises));
    }

pub put-moved-in : (old new : Outlook) (l : Level) (id : LspId) (e : Entry) (entries read : Entries) → read ≡ node_with entries id e → IsPutAt old new l id e → at old.told l ≡ told_in entries → IsId id → AllByRecursion (λ (p : LspId × Entry). IsId p.0) entries → RisesFrom 0 entries → IsMovedAt old new l id.node (told_in read)
put-moved-in old new l id e entries read is p held own ids rises = subst (λ (es : Entries). IsMovedAt old new l id.node (told_in es)) (sym is) (put-moved old new l id e entries p held own ids rises)

-- what a level that is run tells is what its database does
pub told-one : (lent : Lent) → (outlook_in lent).runs.one ≡ true → (outlook_in lent).told.one ≡ told_in lent.one.now.entries
unfolding outlook_in
told-one lent run = rw run refl

pub told-two : (lent : Lent) → (outlook_in lent).runs.two ≡ true → (outlook_in lent).told.two ≡ told_in lent.two.now.entries
unfolding outlook_in
told-two lent run = rw run refl
