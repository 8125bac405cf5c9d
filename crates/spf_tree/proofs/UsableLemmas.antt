-- Rows kept by a test over sorted pairs.

use Rattle.std.proofs.Common.{◌≡◌, ◌∙◌, ℕ, ◌+◌, ◌<◌, ◌^◌, Bool, true, false, cond, ◌==◌, ◌&&◌, ◌||◌, if◌then◌else◌, List, [], ◌∷◌, length, map, get_or, refl, sym, ap, arith, inl, inr}
use Rattle.std.specs.declared.cmp.Ordering.TheVariants.{Less, Equal, Greater}
use Rattle.std.specs.Ordering.{nat_cmp, ordering_then, ordering_index, is_lt}
use Rattle.std.specs.List.{list_any, filter, HoldsAt, All}
use Rattle.std.specs.List.Sorted.{IsSorted, IsPermutation, IsNonDecreasingBy, IsPartitionPoint, IsSortedByKey}
use Rattle.std.proofs.lemmas.Bool.{cases_lt, eqb-true, and_parts}
use Rattle.std.proofs.lemmas.Bool.Decides.{nat_tests}
use Rattle.std.proofs.lemmas.Cmp.{nat_cmp_total, on_total, then_total}
use Rattle.std.proofs.lemmas.List.Folds.{list_any_at, list_any_none}
use Rattle.std.proofs.lemmas.List.Sorted.{IsNonDecreasingBy-from_sort, searchable_from_sorted, list_any-IsPermutation, sum_by-IsPermutation, length_permutation, Contains-permutation, IsPermutation-sym}
use Rattle.std.proofs.lemmas.List.Sums.{sum_by-cons, length-filter, count_by-le-length}
use Rattle.isis_base.specs.declared.identifiers.NodeId.{NodeId}
use Rattle.spf_tree.specs.declared.row.Row.{Row}
use Rattle.spf_tree.specs.Nodes.{node_number}
use Rattle.std.proofs.lemmas.List.Elements.{All-contains}
use Rattle.spf_tree.specs.Walks.{start, end}
use Rattle.spf_tree.specs.Search.{IsBounded}
use Rattle.spf_tree.specs.Graphs.{is_usable, same_row, times}
use Rattle.spf_tree.specs.Pairs.{is_pair, passes, row_passes, ends_of, node_pair, pair_cmp}

-- ---- what the search for a pair answers

equal_is : (a b c d : ℕ) → ordering_then (nat_cmp c a) (nat_cmp d b) ≡ Equal → (c == a && d == b) ≡ true
equal_is a b c d h = grind (arith, nat_tests)

less_not : (a b c d : ℕ) → ordering_then (nat_cmp c a) (nat_cmp d b) ≡ Less → (c == a && d == b) ≡ false
less_not a b c d h = grind (arith, nat_tests)

greater_not : (a b c d : ℕ) → ordering_then (nat_cmp c a) (nat_cmp d b) ≡ Greater → (c == a && d == b) ≡ false
greater_not a b c d h = grind (arith, nat_tests)

pub pair_there : (pairs : List (ℕ × ℕ)) (a b i : ℕ) → i < length pairs → HoldsAt (λ y. pair_cmp y (a, b) ≡ Equal) pairs i → true ≡ list_any (is_pair a b) pairs
pair_there pairs a b i in' h =
    let d : ℕ × ℕ = (0, 0) in
    let y = get_or pairs i d in
    sym (list_any_at (is_pair a b) pairs i d in' (equal_is a b y.0 y.1 (h d)))

pub pair_none : (pairs : List (ℕ × ℕ)) (a b i : ℕ) → IsSorted pair_cmp pairs → (IsNonDecreasingBy (λ y. ordering_index (pair_cmp y (a, b))) pairs → IsPartitionPoint (λ y. pair_cmp y (a, b) ≡ Less) (λ y. pair_cmp y (a, b) ≡ Greater) pairs i) → false ≡ list_any (is_pair a b) pairs
pair_none pairs a b i sorted h =
    let total = then_total (on_total (λ (p : ℕ × ℕ). p.0) nat_cmp_total) (on_total (λ (p : ℕ × ℕ). p.1) nat_cmp_total) in
    let p = h (searchable_from_sorted total (λ (y : ℕ × ℕ). y) pairs (a, b) sorted) in
    sym (list_any_none (is_pair a b) pairs (λ k d l.
    let y = get_or pairs k d in
    elim (cases_lt k i) [
      | inl less ↦ less_not a b y.0 y.1 (p.0 k d (omega arith) less)
      | inr not_less ↦ greater_not a b y.0 y.1 (p.1 k d not_less l)
    ]))

-- ---- the tests over pairs are those over rows and nodes

any_map : {X Y : Type 0} (p : Y → Bool) (f : X → Y) (xs : List X) → list_any p (map f xs) ≡ list_any (λ x. p (f x)) xs
any_map p f [] = refl
any_map p f (x ∷ xs) = ap (λ (b : Bool). p (f x) || b) (any_map p f xs)

zero_is : (b : Bool) → (b && (0 == 0)) ≡ b
zero_is true = refl
zero_is false = refl

any_same : {X : Type 0} (p q : X → Bool) (xs : List X) → ((x : X) → p x ≡ q x) → list_any p xs ≡ list_any q xs
any_same p q [] h = refl
any_same p q (x ∷ xs) h = rw (h x) (ap (λ (b : Bool). q x || b) (any_same p q xs h))

pub passes_is : (rows : List Row) (overloaded : List NodeId) (pairs over : List (ℕ × ℕ)) (root from to metric : ℕ) → IsPermutation (map ends_of rows) pairs → IsPermutation (map node_pair overloaded) over → passes pairs over root from to metric ≡ is_usable rows overloaded root from to metric
passes_is rows overloaded pairs over root from to metric p q =
    let back : list_any (is_pair to from) pairs ≡ list_any (λ (row : Row). start row == to && end row == from) rows =
    sym (list_any-IsPermutation (is_pair to from) (map ends_of rows) pairs p) ∙ any_map (is_pair to from) ends_of rows in
    let full : list_any (is_pair from 0) over ≡ list_any (λ (node : NodeId). node_number node == from) overloaded =
    sym (list_any-IsPermutation (is_pair from 0) (map node_pair overloaded) over q) ∙ any_map (is_pair from 0) node_pair overloaded
    ∙ any_same (λ (node : NodeId). node_number node == from && 0 == 0) (λ (node : NodeId). node_number node == from) overloaded (λ n. zero_is (node_number n == from)) in
    rw (back, full) refl

-- ---- how often a row is kept

pub alike : (p : ℕ → ℕ → ℕ → Bool) (row x : Row) → same_row row x ≡ true → p (start x) (end x) x.metric ≡ p (start row) (end row) row.metric
alike p row x h =
    let a = and_parts (start row == start x) (end row == end x && row.metric == x.metric) h in
    let b = and_parts (end row == end x) (row.metric == x.metric) a.1 in
    rw (eqb-true (start row) (start x) a.0, eqb-true (end row) (end x) b.0, eqb-true row.metric x.metric b.1) refl

kept_one : (kept same here : Bool) (n m : ℕ) → (same ≡ true → here ≡ kept) → n ≡ (if kept then m else 0) → (if here then cond same 1 0 + n else n) ≡ (if kept then cond same 1 0 + m else 0)
kept_one true true here n m h e = rw (h refl) (omega arith)
kept_one false true here n m h e = rw (h refl) e
kept_one true false true n m h e = omega arith
kept_one true false false n m h e = omega arith
kept_one false false true n m h e = omega arith
kept_one false false false n m h e = e

push_count : (row x : Row) (xs : List Row) (here : Bool) → times (if here then x ∷ xs else xs) row ≡ (if here then cond (same_row row x) 1 0 + times xs row else times xs row)
push_count row x xs true = sum_by-cons (λ y. cond (same_row row y) 1 0) x xs
push_count row x xs false = refl

none_kept : (b : Bool) (z : ℕ) → (if b then z else z) ≡ z
none_kept true z = refl
none_kept false z = refl

kept_times : (p : ℕ → ℕ → ℕ → Bool) (rows : List Row) (row : Row) → times (filter (λ (r : Row). p (start r) (end r) r.metric) rows) row ≡ (if p (start row) (end row) row.metric then times rows row else 0)
kept_times p [] row = sym (none_kept (p (start row) (end row) row.metric) 0)
kept_times p (x ∷ rows) row =
    push_count row x (filter (λ (r : Row). p (start r) (end r) r.metric) rows) (p (start x) (end x) x.metric)
    ∙ rw (sum_by-cons (λ y. cond (same_row row y) 1 0) x rows)
    (kept_one (p (start row) (end row) row.metric) (same_row row x) (p (start x) (end x) x.metric) (times (filter (λ (r : Row). p (start r) (end r) r.metric) rows) row) (times rows row) (alike p row x) (kept_times p rows row))

pub usable_times : (rows : List Row) (overloaded : List NodeId) (pairs over : List (ℕ × ℕ)) (root : ℕ) (kept sorted : List Row) → IsPermutation (map ends_of rows) pairs → IsPermutation (map node_pair overloaded) over → kept ≡ filter (row_passes pairs over root) rows → IsPermutation kept sorted
    → (row : Row) → times sorted row ≡ (if is_usable rows overloaded root (start row) (end row) row.metric then times rows row else 0)
usable_times rows overloaded pairs over root kept sorted p q is moved row =
    sum_by-IsPermutation (λ (y : Row). cond (same_row row y) 1 0) kept sorted moved
    ∙ ap (λ (rs : List Row). times rs row) is
    ∙ kept_times (passes pairs over root) rows row
    ∙ rw (passes_is rows overloaded pairs over root (start row) (end row) row.metric p q) refl

-- ---- the graph's rows are few, and their metrics fit

pub kept_bounded : (test : Row → Bool) (rows kept sorted : List Row) → length rows < 2 ^ 32 → kept ≡ filter test rows → All (λ (row : Row). row.metric < 2 ^ 32) kept → IsPermutation kept sorted → IsBounded sorted
kept_bounded test rows kept sorted few is small moved =
    let long = length_permutation kept sorted moved in
    let count = ap length is ∙ length-filter test rows in
    let most = count_by-le-length test rows in
    record {
      few = omega arith;
      small = λ row h. All-contains (λ (r : Row). r.metric < 2 ^ 32) kept row small (Contains-permutation sorted kept row (IsPermutation-sym kept sorted moved) h);
    }

-- ---- rows in order

abbrev pub row_key : Row → ℕ × ℕ × ℕ
row_key row = (start row, end row, row.metric)

first_falls : (a b c d e f : ℕ) → is_lt (ordering_then (ordering_then (nat_cmp a d) (nat_cmp b e)) (nat_cmp c f)) ≡ false → is_lt (nat_cmp a d) ≡ false
first_falls a b c d e f h = grind (arith, nat_tests)

pub starts_rise : (rows : List Row) → IsSortedByKey row_key (λ x y. ordering_then (ordering_then (nat_cmp x.0 y.0) (nat_cmp x.1 y.1)) (nat_cmp x.2 y.2)) rows → IsNonDecreasingBy start rows
starts_rise rows sorted =
    IsNonDecreasingBy-from_sort start rows (λ k d low h.
    let x = get_or rows (k + 1) d in
    let y = get_or rows k d in
    first_falls (start x) (end x) x.metric (start y) (end y) y.metric (sorted k d low h))
