-- What is read of a node with one of its LSPs as it will be: in order, by LSP ID, and between two numbers.
use Rattle.std.proofs.Common.{◌≡◌, ◌∙◌, ℕ, ◌+◌, ◌<◌, ◌≤◌, ◌⊎◌, ◌==◌, ◌&&◌, nat_le, nat_lt, Bool, true, false, [], ◌∷◌, ◌++◌, Option, Some, None, refl, sym, ap, ap₂, arith, if◌then◌else◌, inl, inr}
use Rattle.std.specs.Borrow.{Bor}
use Rattle.std.specs.List.{AllByRecursion}
use Rattle.std.specs.Option.{MatchOption, option_map}
use Rattle.std.proofs.lemmas.Bool.{eq-eqb, ne_eqb}
use Rattle.std.proofs.lemmas.Bool.Decides.{nat_tests}
use Rattle.isis_base.specs.declared.identifiers.LspId.{LspId}
use Rattle.isis_base.specs.Identifiers.{IsId, lsp_number}
use Rattle.lsp_store.specs.declared.entry.Entry.{Entry}
use Rattle.lsp_store.specs.Maps.{between, find, pair_number, put, RisesFrom}
use Rattle.lsp_store.proofs.MapLemmas.{put-rises}
use Rattle.lsp_view.specs.declared.lsps.Lsps.{Lsps}
use Rattle.lsp_view.specs.Lsps.{AreClipped, above_of, below_of, entries_in, node_with}
use Rattle.lsp_view.specs.Views.{number_of}
use Rattle.lsp_view.proofs.NodeLemmas.{Entries, between-rises, find-between, first-is, put-found, put-ids, split}

-- ---- pairs below and above a number

append-step : (x : LspId × Entry) (l m n : Entries) (t : Bool) → l ≡ m ++ n → (if t then x ∷ l else l) ≡ (if t then x ∷ m else m) ++ n
append-step x l m n true e = ap (λ (k : Entries). x ∷ k) e
append-step x l m n false e = e

between-append : (s e : ℕ) (xs ys : Entries) → between s e (xs ++ ys) ≡ between s e xs ++ between s e ys
between-append s e [] ys = refl
between-append s e (x ∷ xs) ys = append-step x (between s e (xs ++ ys)) (between s e xs) (between s e ys) (nat_le s (pair_number x) && nat_le (pair_number x) e) (between-append s e xs ys)

below-none : (n least : ℕ) (xs : Entries) → n ≤ least → RisesFrom least xs → below_of n xs ≡ []
below-none n least [] le r = refl
below-none n least (x ∷ xs) le r =
    let h = r.0 in
    grind (arith, nat_tests, h, le, below-none n (pair_number x + 1) xs (omega (arith, h, le)) r.1)

above-all : (n least : ℕ) (xs : Entries) → n < least → RisesFrom least xs → above_of n xs ≡ xs
above-all n least [] lt r = refl
above-all n least (x ∷ xs) lt r =
    let h = r.0 in
    grind (arith, nat_tests, h, lt, above-all n (pair_number x + 1) xs (omega (arith, h, lt)) r.1)

-- what is put stands behind what is below it and before what is above it
put-apart : (id : LspId) (v : Entry) (least : ℕ) (xs : Entries) → RisesFrom least xs → put xs id v ≡ below_of (lsp_number id) xs ++ (id, v) ∷ above_of (lsp_number id) xs
put-apart id v least [] r = refl
put-apart id v least (x ∷ xs) r =
    let rest = put-apart id v (pair_number x + 1) xs r.1 in
    let low = λ (le : lsp_number id ≤ pair_number x + 1). below-none (lsp_number id) (pair_number x + 1) xs le r.1 in
    let high = λ (lt : lsp_number id < pair_number x + 1). above-all (lsp_number id) (pair_number x + 1) xs lt r.1 in
    grind (arith, nat_tests, rest, low, high)

-- ---- those of a node between two numbers

within-clip : (s e a b s' e' n : ℕ) → AreClipped s e a b s' e' → (nat_le a n && nat_le n b) && (nat_le s n && nat_le n e) ≡ nat_le s' n && nat_le n e'
within-clip s e a b s' e' n c = by c.least c.most
  where
    by : (s' ≡ s) ⊎ (s' ≡ a) → (e' ≡ e) ⊎ (e' ≡ b) → (nat_le a n && nat_le n b) && (nat_le s n && nat_le n e) ≡ nat_le s' n && nat_le n e'
    by (inl p) (inl q) = let l = c.above in let h = c.below in let l0 = l.0 in let l1 = l.1 in let h0 = h.0 in let h1 = h.1 in grind (arith, nat_tests, p, q, l0, l1, h0, h1)
    by (inl p) (inr q) = let l = c.above in let h = c.below in let l0 = l.0 in let l1 = l.1 in let h0 = h.0 in let h1 = h.1 in grind (arith, nat_tests, p, q, l0, l1, h0, h1)
    by (inr p) (inl q) = let l = c.above in let h = c.below in let l0 = l.0 in let l1 = l.1 in let h0 = h.0 in let h1 = h.1 in grind (arith, nat_tests, p, q, l0, l1, h0, h1)
    by (inr p) (inr q) = let l = c.above in let h = c.below in let l0 = l.0 in let l1 = l.1 in let h0 = h.0 in let h1 = h.1 in grind (arith, nat_tests, p, q, l0, l1, h0, h1)

module _ (s e a b s' e' n : ℕ) (x : LspId × Entry) (xs : Entries) where
  below-step : (t u v : Bool) → (nat_le a (pair_number x) && nat_le (pair_number x) b) ≡ t → nat_lt (pair_number x) n ≡ u → (nat_le s (pair_number x) && nat_le (pair_number x) e) ≡ v → (nat_le s' (pair_number x) && nat_le (pair_number x) e') ≡ (t && v)
      → between s e (below_of n (between a b xs)) ≡ between s' e' (below_of n xs) → between s e (below_of n (between a b (x ∷ xs))) ≡ between s' e' (below_of n (x ∷ xs))
  below-step true true true p q r z rest = rw (p, q, r, z) (ap (λ (l : Entries). x ∷ l) rest)
  below-step true true false p q r z rest = rw (p, q, r, z) rest
  below-step true false v p q r z rest = rw (p, q) rest
  below-step false true v p q r z rest = rw (p, q, z) rest
  below-step false false v p q r z rest = rw (p, q) rest

  above-step : (t u v : Bool) → (nat_le a (pair_number x) && nat_le (pair_number x) b) ≡ t → nat_lt n (pair_number x) ≡ u → (nat_le s (pair_number x) && nat_le (pair_number x) e) ≡ v → (nat_le s' (pair_number x) && nat_le (pair_number x) e') ≡ (t && v)
      → between s e (above_of n (between a b xs)) ≡ between s' e' (above_of n xs) → between s e (above_of n (between a b (x ∷ xs))) ≡ between s' e' (above_of n (x ∷ xs))
  above-step true true true p q r z rest = rw (p, q, r, z) (ap (λ (l : Entries). x ∷ l) rest)
  above-step true true false p q r z rest = rw (p, q, r, z) rest
  above-step true false v p q r z rest = rw (p, q) rest
  above-step false true v p q r z rest = rw (p, q, z) rest
  above-step false false v p q r z rest = rw (p, q) rest

clip-below : (s e a b s' e' n : ℕ) (xs : Entries) → AreClipped s e a b s' e' → between s e (below_of n (between a b xs)) ≡ between s' e' (below_of n xs)
clip-below s e a b s' e' n [] c = refl
clip-below s e a b s' e' n (x ∷ xs) c =
    below-step s e a b s' e' n x xs (nat_le a (pair_number x) && nat_le (pair_number x) b) (nat_lt (pair_number x) n) (nat_le s (pair_number x) && nat_le (pair_number x) e) refl refl refl (sym (within-clip s e a b s' e' (pair_number x) c)) (clip-below s e a b s' e' n xs c)

clip-above : (s e a b s' e' n : ℕ) (xs : Entries) → AreClipped s e a b s' e' → between s e (above_of n (between a b xs)) ≡ between s' e' (above_of n xs)
clip-above s e a b s' e' n [] c = refl
clip-above s e a b s' e' n (x ∷ xs) c =
    above-step s e a b s' e' n x xs (nat_le a (pair_number x) && nat_le (pair_number x) b) (nat_lt n (pair_number x)) (nat_le s (pair_number x) && nat_le (pair_number x) e) refl refl refl (sym (within-clip s e a b s' e' (pair_number x) c)) (clip-above s e a b s' e' n xs c)

one-more : (s e : ℕ) (id : LspId) (v : Entry) (l m : Entries) (t : Bool) → (nat_le s (lsp_number id) && nat_le (lsp_number id) e) ≡ t → between s e l ≡ m → between s e ((id, v) ∷ l) ≡ (if t then (id, v) ∷ [] else []) ++ m
one-more s e id v l m true p rest = rw p (ap (λ (k : Entries). (id, v) ∷ k) rest)
one-more s e id v l m false p rest = rw p rest

pub range-with : (entries : Entries) (id : LspId) (v : Entry) (s e s' e' : ℕ) → RisesFrom 0 entries → AreClipped s e (number_of id.node 0) (number_of id.node 255) s' e' → (number_of id.node 0 ≤ lsp_number id) × (lsp_number id ≤ number_of id.node 255)
    → between s' e' (below_of (lsp_number id) entries) ++ ((if nat_le s' (lsp_number id) && nat_le (lsp_number id) e' then (id, v) ∷ [] else []) ++ between s' e' (above_of (lsp_number id) entries)) ≡ between s e (node_with entries id v)
unfolding node_with
range-with entries id v s e s' e' rises clip own =
    let n = lsp_number id in
    let first = number_of id.node 0 in
    let last = number_of id.node 255 in
    let part = between first last entries in
    let low = own.0 in
    let high = own.1 in
    let inside : (nat_le first n && nat_le n last) ≡ true = grind (arith, nat_tests, low, high) in
    let same : (nat_le s n && nat_le n e) ≡ (nat_le s' n && nat_le n e') = ap (λ (t : Bool). t && (nat_le s n && nat_le n e)) (sym inside) ∙ within-clip s e first last s' e' n clip in
    sym (ap (between s e) (put-apart id v 0 part (between-rises first last 0 entries rises))
    ∙ between-append s e (below_of n part) ((id, v) ∷ above_of n part)
    ∙ ap₂ (λ (l m : Entries). l ++ m) (clip-below s e first last s' e' n entries clip) (one-more s e id v (above_of n part) (between s' e' (above_of n entries)) (nat_le s' n && nat_le n e') same (clip-above s e first last s' e' n entries clip)))

-- ---- parts of a range

pub below-zero : (s e : ℕ) (xs : Entries) → [] ≡ between s e (below_of 0 xs)
below-zero s e [] = refl
below-zero s e (x ∷ xs) = grind (arith, nat_tests, below-zero s e xs)

pub cut-below : (s e n k : ℕ) (xs : Entries) → k ≤ e → k < n → (k ≡ e) ⊎ (k + 1 ≡ n) → between s k xs ≡ between s e (below_of n xs)
cut-below s e n k [] le lt at = refl
cut-below s e n k (x ∷ xs) le lt (inl at) = grind (arith, nat_tests, le, lt, at, cut-below s e n k xs le lt (inl at))
cut-below s e n k (x ∷ xs) le lt (inr at) = grind (arith, nat_tests, le, lt, at, cut-below s e n k xs le lt (inr at))

pub cut-above : (s e n k : ℕ) (xs : Entries) → s ≤ k → n < k → (k ≡ s) ⊎ (k ≡ n + 1) → between k e xs ≡ between s e (above_of n xs)
cut-above s e n k [] le lt at = refl
cut-above s e n k (x ∷ xs) le lt (inl at) = grind (arith, nat_tests, le, lt, at, cut-above s e n k xs le lt (inl at))
cut-above s e n k (x ∷ xs) le lt (inr at) = grind (arith, nat_tests, le, lt, at, cut-above s e n k xs le lt (inr at))

pub above-most : (s e n : ℕ) (xs : Entries) → e ≤ n → [] ≡ between s e (above_of n xs)
above-most s e n [] le = refl
above-most s e n (x ∷ xs) le = grind (arith, nat_tests, le, above-most s e n xs le)

-- ---- all of them, and one

pub ends-within : (id : LspId) → IsId id → (number_of id.node 0 ≤ lsp_number id) × (lsp_number id ≤ number_of id.node 255)
ends-within id is =
    let s = split id is in
    let number = s.number in
    let last = s.last in
    let small = s.small in
    let first = first-is id.node in
    (omega (arith, number, first), omega (arith, number, last, small))

pub with-rises : (lsps : Lsps) (one : LspId × Bor Entry) → lsps.one ≡ Some one → RisesFrom 0 lsps.store.now.entries → RisesFrom 0 (entries_in lsps)
unfolding node_with
with-rises lsps one is rises = rw is (put-rises (between (number_of one.0.node 0) (number_of one.0.node 255) lsps.store.now.entries) 0 one.0 one.1.now (omega arith) (between-rises (number_of one.0.node 0) (number_of one.0.node 255) 0 lsps.store.now.entries rises))

ids-if : (x : LspId × Entry) (xs : Entries) (t : Bool) → IsId x.0 → AllByRecursion (λ (p : LspId × Entry). IsId p.0) xs → AllByRecursion (λ (p : LspId × Entry). IsId p.0) (if t then x ∷ xs else xs)
ids-if x xs true is ids = (is, ids)
ids-if x xs false is ids = ids

between-ids : (f l : ℕ) (xs : Entries) → AllByRecursion (λ (p : LspId × Entry). IsId p.0) xs → AllByRecursion (λ (p : LspId × Entry). IsId p.0) (between f l xs)
between-ids f l [] ids = tt
between-ids f l (x ∷ xs) ids = ids-if x (between f l xs) (nat_le f (pair_number x) && nat_le (pair_number x) l) ids.0 (between-ids f l xs ids.1)

pub with-ids : (lsps : Lsps) (one : LspId × Bor Entry) → lsps.one ≡ Some one → IsId one.0 → AllByRecursion (λ (p : LspId × Entry). IsId p.0) lsps.store.now.entries → AllByRecursion (λ (p : LspId × Entry). IsId p.0) (entries_in lsps)
unfolding node_with
with-ids lsps one is own ids = rw is (put-ids one.0 one.1.now (between (number_of one.0.node 0) (number_of one.0.node 255) lsps.store.now.entries) own (between-ids (number_of one.0.node 0) (number_of one.0.node 255) lsps.store.now.entries ids))

-- what is found of a node with one of its LSPs as it will be
pub found-with : (entries : Entries) (id : LspId) (v : Entry) (n : ℕ) → find (node_with entries id v) n ≡ (if lsp_number id == n then Some v else (if nat_le (number_of id.node 0) n && nat_le n (number_of id.node 255) then find entries n else None))
unfolding node_with
found-with entries id v n = put-found (between (number_of id.node 0) (number_of id.node 255) entries) id v n ∙ ap (λ (o : Option Entry). if lsp_number id == n then Some v else o) (find-between (number_of id.node 0) (number_of id.node 255) entries n)

-- what is read of an LSP ID: the entry, what is held of another one of its node, and nothing beside these
pub get-here : (lsps : Lsps) (one : LspId × Bor Entry) → lsps.one ≡ Some one → (n : ℕ) → lsp_number one.0 ≡ n → Some one.1.now ≡ find (entries_in lsps) n
get-here lsps one is n at =
    rw is (sym (found-with lsps.store.now.entries one.0 one.1.now n ∙ ap (λ (t : Bool). if t then Some one.1.now else (if nat_le (number_of one.0.node 0) n && nat_le n (number_of one.0.node 255) then find lsps.store.now.entries n else None)) (eq-eqb (lsp_number one.0) n at)))

module _ (lsps : Lsps) (one : LspId × Bor Entry) (is : lsps.one ≡ Some one) (n : ℕ) (other : lsp_number one.0 ≡ n → ⊥) where
  get-other : find (entries_in lsps) n ≡ (if nat_le (number_of one.0.node 0) n && nat_le n (number_of one.0.node 255) then find lsps.store.now.entries n else None)
  get-other = rw is (found-with lsps.store.now.entries one.0 one.1.now n ∙ ap (λ (t : Bool). if t then Some one.1.now else (if nat_le (number_of one.0.node 0) n && nat_le n (number_of one.0.node 255) then find lsps.store.now.entries n else None)) (ne_eqb (lsp_number one.0) n other))

  pub get-inside : number_of one.0.node 0 ≤ n → n ≤ number_of one.0.node 255 → find lsps.store.now.entries n ≡ find (entries_in lsps) n
  get-inside low high =
      let inside : (nat_le (number_of one.0.node 0) n && nat_le n (number_of one.0.node 255)) ≡ true = grind (arith, nat_tests, low, high) in
      sym (get-other ∙ ap (λ (t : Bool). if t then find lsps.store.now.entries n else None) inside)

  pub get-outside : (n < number_of one.0.node 0) ⊎ (number_of one.0.node 255 < n) → None ≡ find (entries_in lsps) n
  get-outside (inl low) =
      let outside : (nat_le (number_of one.0.node 0) n && nat_le n (number_of one.0.node 255)) ≡ false = grind (arith, nat_tests, low) in
      sym (get-other ∙ ap (λ (t : Bool). if t then find lsps.store.now.entries n else None) outside)
  get-outside (inr high) =
      let outside : (nat_le (number_of one.0.node 0) n && nat_le n (number_of one.0.node 255)) ≡ false = grind (arith, nat_tests, high) in
      sym (get-other ∙ ap (λ (t : Bool). if t then find lsps.store.now.entries n else None) outside)

pub matched : (o : Option (Bor Entry)) (x : Option Entry) → MatchOption o (x ≡ None) (λ (e : Bor Entry). x ≡ Some e.now) → option_map (λ (e : Bor Entry). e.now) o ≡ x
matched None x m = sym m
matched (Some e) x m = sym m
