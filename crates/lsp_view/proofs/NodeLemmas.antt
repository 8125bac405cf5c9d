-- The LSPs of one node stand together, and what is put among those between two numbers.
use Rattle.std.proofs.Common.{◌≡◌, ◌∙◌, ℕ, ◌+◌, ◌%◌, ◌<◌, ◌≤◌, ◌⊎◌, ◌==◌, ◌&&◌, nat_le, nat_lt, Bool, true, false, List, [], ◌∷◌, ◌++◌, length, Option, Some, None, refl, sym, ap, arith, if◌then◌else◌, inl, inr}
use Rattle.std.specs.List.{AllByRecursion}
use Rattle.std.specs.Int.{from_be_bytes, w64}
use Rattle.std.proofs.lemmas.Bool.{cases_eq, cases_lt, eq-eqb, ne_eqb, eqb-true}
use Rattle.std.proofs.lemmas.Bool.Decides.{nat_tests}
use Rattle.isis_base.specs.declared.identifiers.LspId.{LspId}
use Rattle.isis_base.specs.declared.identifiers.NodeId.{NodeId}
use Rattle.isis_base.specs.Identifiers.{IsId, lsp_number}
use Rattle.lsp_store.specs.declared.entry.Entry.{Entry}
use Rattle.lsp_store.specs.Maps.{between, find, pair_number, put, RisesFrom}
use Rattle.lsp_store.specs.Places.{AllAbove}
use Rattle.lsp_store.proofs.MapLemmas.{rises-less, rises-above, put-above}
use Rattle.lsp_view.specs.Views.{number_of}
use Rattle.spf_tree.specs.Nodes.{node_number}

abbrev pub Entries : Type 0
Entries = List (LspId × Entry)

-- ---- numbers of a node's LSPs

number-split : (xs : List ℕ) (p k : ℕ) → length xs ≡ 6 → p < 256 → k < 256 → from_be_bytes w64 ((xs ++ p ∷ []) ++ k ∷ []) ≡ from_be_bytes w64 ((xs ++ p ∷ []) ++ 0 ∷ []) + k
number-split (a ∷ b ∷ c ∷ d ∷ e ∷ f ∷ []) p k six small_p small_k = omega arith
number-split [] p k six small_p small_k = absurd (omega (arith, six))
number-split (a ∷ []) p k six small_p small_k = absurd (omega (arith, six))
number-split (a ∷ b ∷ []) p k six small_p small_k = absurd (omega (arith, six))
number-split (a ∷ b ∷ c ∷ []) p k six small_p small_k = absurd (omega (arith, six))
number-split (a ∷ b ∷ c ∷ d ∷ []) p k six small_p small_k = absurd (omega (arith, six))
number-split (a ∷ b ∷ c ∷ d ∷ e ∷ []) p k six small_p small_k = absurd (omega (arith, six))
number-split (a ∷ b ∷ c ∷ d ∷ e ∷ f ∷ g ∷ xs) p k six small_p small_k = absurd (omega (arith, six))

base-whole : (xs : List ℕ) (p : ℕ) → length xs ≡ 6 → p < 256 → from_be_bytes w64 ((xs ++ p ∷ []) ++ 0 ∷ []) % 256 ≡ 0
base-whole (a ∷ b ∷ c ∷ d ∷ e ∷ f ∷ []) p six small_p = omega arith
base-whole [] p six small_p = absurd (omega (arith, six))
base-whole (a ∷ []) p six small_p = absurd (omega (arith, six))
base-whole (a ∷ b ∷ []) p six small_p = absurd (omega (arith, six))
base-whole (a ∷ b ∷ c ∷ []) p six small_p = absurd (omega (arith, six))
base-whole (a ∷ b ∷ c ∷ d ∷ []) p six small_p = absurd (omega (arith, six))
base-whole (a ∷ b ∷ c ∷ d ∷ e ∷ []) p six small_p = absurd (omega (arith, six))
base-whole (a ∷ b ∷ c ∷ d ∷ e ∷ f ∷ g ∷ xs) p six small_p = absurd (omega (arith, six))

last-small : (xs : List ℕ) (p k : ℕ) → length xs ≡ 6 → AllByRecursion (λ octet. octet < 256) ((xs ++ p ∷ []) ++ k ∷ []) → (p < 256) × (k < 256)
last-small (a ∷ b ∷ c ∷ d ∷ e ∷ f ∷ []) p k six all = (all.1.1.1.1.1.1.0, all.1.1.1.1.1.1.1.0)
last-small [] p k six all = absurd (omega (arith, six))
last-small (a ∷ []) p k six all = absurd (omega (arith, six))
last-small (a ∷ b ∷ []) p k six all = absurd (omega (arith, six))
last-small (a ∷ b ∷ c ∷ []) p k six all = absurd (omega (arith, six))
last-small (a ∷ b ∷ c ∷ d ∷ []) p k six all = absurd (omega (arith, six))
last-small (a ∷ b ∷ c ∷ d ∷ e ∷ []) p k six all = absurd (omega (arith, six))
last-small (a ∷ b ∷ c ∷ d ∷ e ∷ f ∷ g ∷ xs) p k six all = absurd (omega (arith, six))

-- an LSP ID's number is its node's and its own
pub record IsSplit (id : LspId) : Type 0 where
  pub number : lsp_number id ≡ node_number id.node + id.number
  pub last : number_of id.node 255 ≡ node_number id.node + 255
  pub whole : node_number id.node % 256 ≡ 0
  pub small : id.number < 256

pub split : (id : LspId) → IsId id → IsSplit id
unfolding lsp_number node_number
split id is =
    let small = last-small id.node.system.0 id.node.pseudonode id.number is.six is.small in
    record {
      number = number-split id.node.system.0 id.node.pseudonode id.number is.six small.0 small.1;
      last = number-split id.node.system.0 id.node.pseudonode 255 is.six small.0 (omega arith);
      whole = base-whole id.node.system.0 id.node.pseudonode is.six small.0;
      small = small.1;
    }

pub first-is : (node : NodeId) → number_of node 0 ≡ node_number node
unfolding node_number
first-is node = refl

pub within : (a b k : ℕ) → a % 256 ≡ 0 → b % 256 ≡ 0 → k < 256 → (nat_le a (b + k) && nat_le (b + k) (a + 255)) ≡ (b == a)
within a b k whole_a whole_b small =
    elim (cases_eq b a) [
      | inl same ↦ rw (eq-eqb b a same) (let e : b ≡ a = same in grind (arith, nat_tests, small, e))
      | inr other ↦ rw (ne_eqb b a other) (far (apart other))
    ]
  where
    apart : (b ≡ a → ⊥) → (b + k < a) ⊎ (a + 255 < b + k)
    apart other =
        elim (cases_lt b a) [
          | inl down ↦ inl (omega (arith, whole_a, whole_b, small, other, down))
          | inr up ↦ inr (omega (arith, whole_a, whole_b, small, other, up))
        ]

    far : (b + k < a) ⊎ (a + 255 < b + k) → (nat_le a (b + k) && nat_le (b + k) (a + 255)) ≡ false
    far (inl less) = grind (arith, nat_tests, less)
    far (inr more) = grind (arith, nat_tests, more)

-- ---- what lies between two numbers

rises-if : (least : ℕ) (x : LspId × Entry) (xs : Entries) (t : Bool) → least ≤ pair_number x → RisesFrom (pair_number x + 1) xs → RisesFrom least (if t then x ∷ xs else xs)
rises-if least x xs true low rest = (low, rest)
rises-if least x xs false low rest = rises-less (pair_number x + 1) least xs (omega (arith, low)) rest

pub between-rises : (f l least : ℕ) (xs : Entries) → RisesFrom least xs → RisesFrom least (between f l xs)
between-rises f l least [] rises = tt
between-rises f l least (x ∷ xs) rises = rises-if least x (between f l xs) (nat_le f (pair_number x) && nat_le (pair_number x) l) rises.0 (between-rises f l (pair_number x + 1) xs rises.1)

module _ (f l : ℕ) (id : LspId) (e : Entry) (own : (nat_le f (lsp_number id) && nat_le (lsp_number id) l) ≡ true) (x : LspId × Entry) (xs : Entries) (rises : RisesFrom (pair_number x + 1) xs) (rest : between f l (put xs id e) ≡ put (between f l xs) id e) where
  behind-step : (t : Bool) → (nat_le f (pair_number x) && nat_le (pair_number x) l) ≡ t → (pair_number x == lsp_number id) ≡ false → nat_lt (lsp_number id) (pair_number x) ≡ false → between f l (put (x ∷ xs) id e) ≡ put (between f l (x ∷ xs)) id e
  behind-step true h p q = rw (p, q, h, p, q) (ap (λ (l : Entries). x ∷ l) rest)
  behind-step false h p q = rw (p, q, h) rest

  between-step : (a b : Bool) → (pair_number x == lsp_number id) ≡ a → nat_lt (lsp_number id) (pair_number x) ≡ b → between f l (put (x ∷ xs) id e) ≡ put (between f l (x ∷ xs)) id e
  between-step true b p q =
      let same : pair_number x ≡ lsp_number id = eqb-true (pair_number x) (lsp_number id) p in
      let here : (nat_le f (pair_number x) && nat_le (pair_number x) l) ≡ true = ap (λ (n : ℕ). nat_le f n && nat_le n l) same ∙ own in
      rw (p, own, here, p) refl
  between-step false true p q =
      let less : lsp_number id < pair_number x = grind (arith, nat_tests, q) in
      let above : AllAbove (lsp_number id) (between f l (x ∷ xs)) = rises-above (lsp_number id) (pair_number x) (between f l (x ∷ xs)) less (between-rises f l (pair_number x) (x ∷ xs) (omega arith, rises)) in
      rw (p, q, own) (sym (put-above id e [] (between f l (x ∷ xs)) above))
  between-step false false p q = behind-step (nat_le f (pair_number x) && nat_le (pair_number x) l) refl p q

pub between-put : (f l : ℕ) (id : LspId) (e : Entry) (least : ℕ) (xs : Entries) → (nat_le f (lsp_number id) && nat_le (lsp_number id) l) ≡ true → RisesFrom least xs → between f l (put xs id e) ≡ put (between f l xs) id e
between-put f l id e least [] own rises = rw own refl
between-put f l id e least (x ∷ xs) own rises = between-step f l id e own x xs rises.1 (between-put f l id e (pair_number x + 1) xs own rises.1) (pair_number x == lsp_number id) (nat_lt (lsp_number id) (pair_number x)) refl refl

clash : {A : Type 0} → true ≡ false → A
clash e = absurd (cc)

pub find-between : (f l : ℕ) (xs : Entries) (n : ℕ) → find (between f l xs) n ≡ (if nat_le f n && nat_le n l then find xs n else None)
find-between f l [] n = by (nat_le f n && nat_le n l)
  where
    by : (t : Bool) → ◌≡◌ {A = Option Entry} None (if t then None else None)
    by true = refl
    by false = refl
find-between f l (x ∷ xs) n = by (nat_le f (pair_number x) && nat_le (pair_number x) l) refl (pair_number x == n) refl (nat_le f n && nat_le n l) refl (find-between f l xs n)
  where
    test-at : (pair_number x == n) ≡ true → (nat_le f (pair_number x) && nat_le (pair_number x) l) ≡ (nat_le f n && nat_le n l)
    test-at is = ap (λ (k : ℕ). nat_le f k && nat_le k l) (eqb-true (pair_number x) n is)

    by : (t : Bool) → (nat_le f (pair_number x) && nat_le (pair_number x) l) ≡ t → (a : Bool) → (pair_number x == n) ≡ a → (u : Bool) → (nat_le f n && nat_le n l) ≡ u
        → find (between f l xs) n ≡ (if nat_le f n && nat_le n l then find xs n else None)
        → find (if t then x ∷ between f l xs else between f l xs) n ≡ (if u then (if a then Some x.1 else find xs n) else None)
    by true p true q true s rest = ap (λ (b : Bool). if b then Some x.1 else find (between f l xs) n) q
    by true p true q false s rest = clash (sym p ∙ test-at q ∙ s)
    by true p false q u s rest = ap (λ (b : Bool). if b then Some x.1 else find (between f l xs) n) q ∙ rest ∙ ap (λ (b : Bool). if b then find xs n else None) s
    by false p true q true s rest = clash (sym s ∙ sym (test-at q) ∙ p)
    by false p true q false s rest = rest ∙ ap (λ (b : Bool). if b then find xs n else None) s
    by false p false q u s rest = rest ∙ ap (λ (b : Bool). if b then find xs n else None) s

-- ---- an entry that is put

put-id-if : (id : LspId) (e : Entry) (x : LspId × Entry) (xs ys : Entries) (a b : Bool) → IsId id → IsId x.0 → AllByRecursion (λ (p : LspId × Entry). IsId p.0) xs → AllByRecursion (λ (p : LspId × Entry). IsId p.0) ys → AllByRecursion (λ (p : LspId × Entry). IsId p.0) (if a then (id, e) ∷ xs else (if b then (id, e) ∷ x ∷ xs else x ∷ ys))
put-id-if id e x xs ys true b is own ids rest = (is, ids)
put-id-if id e x xs ys false true is own ids rest = (is, (own, ids))
put-id-if id e x xs ys false false is own ids rest = (own, rest)

pub put-ids : (id : LspId) (e : Entry) (xs : Entries) → IsId id → AllByRecursion (λ (p : LspId × Entry). IsId p.0) xs → AllByRecursion (λ (p : LspId × Entry). IsId p.0) (put xs id e)
put-ids id e [] is ids = (is, tt)
put-ids id e (x ∷ xs) is ids = put-id-if id e x xs (put xs id e) (pair_number x == lsp_number id) (nat_lt (lsp_number id) (pair_number x)) is ids.0 ids.1 (put-ids id e xs is ids.1)

pub put-found : (xs : Entries) (id : LspId) (e : Entry) (n : ℕ) → find (put xs id e) n ≡ (if lsp_number id == n then Some e else find xs n)
put-found [] id e n = refl
put-found (x ∷ xs) id e n = grind (arith, nat_tests, put-found xs id e n)

-- numbers have 64 bits
number-small : (xs : List ℕ) (p k : ℕ) → length xs ≡ 6 → AllByRecursion (λ octet. octet < 256) ((xs ++ p ∷ []) ++ k ∷ []) → from_be_bytes w64 ((xs ++ p ∷ []) ++ k ∷ []) ≤ 18446744073709551615
number-small (a ∷ b ∷ c ∷ d ∷ e ∷ f ∷ []) p k six all =
    let ha = all.0 in
    let hb = all.1.0 in
    let hc = all.1.1.0 in
    let hd = all.1.1.1.0 in
    let he = all.1.1.1.1.0 in
    let hf = all.1.1.1.1.1.0 in
    let hp = all.1.1.1.1.1.1.0 in
    let hk = all.1.1.1.1.1.1.1.0 in
    omega (arith, ha, hb, hc, hd, he, hf, hp, hk)
number-small [] p k six all = absurd (omega (arith, six))
number-small (a ∷ []) p k six all = absurd (omega (arith, six))
number-small (a ∷ b ∷ []) p k six all = absurd (omega (arith, six))
number-small (a ∷ b ∷ c ∷ []) p k six all = absurd (omega (arith, six))
number-small (a ∷ b ∷ c ∷ d ∷ []) p k six all = absurd (omega (arith, six))
number-small (a ∷ b ∷ c ∷ d ∷ e ∷ []) p k six all = absurd (omega (arith, six))
number-small (a ∷ b ∷ c ∷ d ∷ e ∷ f ∷ g ∷ xs) p k six all = absurd (omega (arith, six))

number-most : (id : LspId) → IsId id → lsp_number id ≤ 18446744073709551615
unfolding lsp_number
number-most id is = number-small id.node.system.0 id.node.pseudonode id.number is.six is.small

pub between-all : (xs : Entries) → AllByRecursion (λ (p : LspId × Entry). IsId p.0) xs → between 0 18446744073709551615 xs ≡ xs
between-all [] ids = refl
between-all (x ∷ xs) ids =
    let most = number-most x.0 ids.0 in
    let rest = between-all xs ids.1 in
    grind (arith, nat_tests, most, rest)
