-- How often rows are there.

use Rattle.std.proofs.Common.{◌≡◌, ◌∙◌, ℕ, zero, suc, ◌+◌, ◌≤◌, ◌<◌, ◌^◌, Bool, true, false, cond, ◌==◌, ◌&&◌, List, [], ◌∷◌, ◌++◌, ◌-◌, length, take, drop, get_or, refl, sym, ap, subst, arith, inl, inr}
use Rattle.std.specs.List.{Contains, All, remove}
use Rattle.std.specs.List.Sorted.{IsNonDecreasingBy, IsPermutation}
use Rattle.std.proofs.lemmas.Bool.{cases_Bool, cases_lt, and_parts, and_from, eqb-true, eq-eqb}
use Rattle.std.proofs.lemmas.List.{append-nil, append_assoc, get_or_append_left, get_or_default, get_or_push, get_or-append-add, get_or-drop, get_or-take, length-append, length-drop, length-take-le, take_all, take_more}
use Rattle.std.proofs.lemmas.List.Elements.{Contains-push_cases, All-tail, All-push, All-contains, Contains-get_or}
use Rattle.std.proofs.lemmas.List.Sums.{sum_by-cons, count_by_more_yes, count_by_more_no, sum_by-take-le, sum_by_push}
use Rattle.std.proofs.lemmas.List.Sorted.{IsPermutation-remove, sum_by-IsPermutation, All-permutation, length_permutation, Contains-permutation, IsPermutation-sym}
use Rattle.spf_tree.specs.declared.row.Row.{Row}
use Rattle.spf_tree.specs.Walks.{start, end}
use Rattle.spf_tree.specs.Search.{IsBounded}
use Rattle.spf_tree.specs.Graphs.{same_row, times}
use Rattle.spf_tree.specs.Places.{HaveEnds}
use Rattle.spf_repair.specs.Replace.{AreFrom, HaveFirst, IsExchanged, IsStripped}
use Rattle.spf_repair.specs.Change.{IsAlike, AreChanged}
use Rattle.spf_tree.proofs.SearchLemmas.{no_row}
use Rattle.spf_tree.proofs.UsableLemmas.{alike}

abbrev pub bit : Bool → ℕ
bit b = cond b 1 0

bit_one : (b : Bool) → b ≡ true → bit b ≡ 1
bit_one b e = rw e refl

bit_none : (b : Bool) → b ≡ false → bit b ≡ 0
bit_none b e = rw e refl

times_cons : (row x : Row) (xs : List Row) → times (x ∷ xs) row ≡ cond (same_row row x) 1 0 + times xs row
times_cons row x xs = sum_by-cons (λ y. cond (same_row row y) 1 0) x xs

pub no_times : (rows : List Row) (row : Row) (i : ℕ) → length rows ≤ i → ((k : ℕ) (d : Row) → k < i → same_row row (get_or rows k d) ≡ false) → times rows row ≡ 0
no_times [] row i past none = refl
no_times (x ∷ rows) row i past none =
    let first : same_row row x ≡ false = none 0 x (omega arith) in
    let rest = no_times rows row (length rows) (omega arith) (λ k d h. none (suc k) d (omega arith)) in
    (let split = times_cons row x rows in let none_here = bit_none (same_row row x) first in omega arith)

same_as : (q row x : Row) → same_row row x ≡ true → same_row q x ≡ same_row q row
same_as q row x h = alike (λ a b m. start q == a && (end q == b && q.metric == m)) row x h

pub taken_times : (old : List Row) (i : ℕ) (x row q : Row) → i < length old → x ≡ get_or old i x → same_row row (get_or old i x) ≡ true → times (remove old i) q + cond (same_row q row) 1 0 ≡ times old q
taken_times old i x row q in' is same =
    let perm = IsPermutation-remove old i x in' is in
    let count : times (x ∷ remove old i) q ≡ times old q = sum_by-IsPermutation (λ y. cond (same_row q y) 1 0) old (x ∷ remove old i) perm in
    let split = times_cons q x (remove old i) in
    let here : same_row row x ≡ true = subst (λ (r : Row). same_row row r ≡ true) (sym is) same in
    let one : bit (same_row q x) ≡ bit (same_row q row) = ap bit (same_as q row x here) in
    omega arith

pub taken_small : (old : List Row) (i : ℕ) (x : Row) → i < length old → x ≡ get_or old i x → All (λ (r : Row). r.metric < 2 ^ 32) old → All (λ (r : Row). r.metric < 2 ^ 32) (remove old i)
taken_small old i x in' is all = All-tail (λ (r : Row). r.metric < 2 ^ 32) x (remove old i) (All-permutation (λ (r : Row). r.metric < 2 ^ 32) old (x ∷ remove old i) (IsPermutation-remove old i x in' is) all)

-- ---- counts and membership

same_self : (row : Row) → same_row row row ≡ true
same_self row = and_from (start row == start row) (end row == end row && row.metric == row.metric) (eq-eqb (start row) (start row) refl) (and_from (end row == end row) (row.metric == row.metric) (eq-eqb (end row) (end row) refl) (eq-eqb row.metric row.metric refl))

times_at : (rows : List Row) (row : Row) (k : ℕ) → k < length rows → get_or rows k row ≡ row → 1 ≤ times rows row
times_at [] row k l e = absurd (omega arith)
times_at (x ∷ rows) row zero l e =
    let yes_ : same_row row x ≡ true = ap (same_row row) e ∙ same_self row in
    rw (times_cons row x rows, yes_) (omega arith)
times_at (x ∷ rows) row (suc k) l e = let rest = times_at rows row k (omega arith) e in rw (times_cons row x rows) (omega arith)

pub times_in : (rows : List Row) (row : Row) → Contains rows row → 1 ≤ times rows row
times_in rows row h = times_at rows row h.0 h.1 h.2

pub in_times : (rows : List Row) (row : Row) → 1 ≤ times rows row → IsAlike rows row
in_times [] row h = absurd (omega arith)
in_times (x ∷ rows) row h =
    elim (cases_Bool (same_row row x)) [
      | inl y ↦
          let a = and_parts (start row == start x) (end row == end x && row.metric == x.metric) y in
          let b = and_parts (end row == end x) (row.metric == x.metric) a.1 in
          (x, (0, omega arith, refl), sym (eqb-true (start row) (start x) a.0), sym (eqb-true (end row) (end x) b.0), sym (eqb-true row.metric x.metric b.1))
      | inr z ↦
          let split = times_cons row x rows in
          let none_here = bit_none (same_row row x) z in
          let rest : 1 ≤ times rows row = omega arith in
          let o = in_times rows row rest in
          let l = o.1.1 in
          (o.0, (suc o.1.0, omega arith, o.1.2), o.2, o.3, o.4)
    ]

pub changed_is : (before rows removed added : List Row) → ((x : Row) → times rows x + times removed x ≡ times before x + times added x) → ((x : Row) → times removed x ≤ times before x) → AreChanged before rows removed added
changed_is before rows removed added count fits =
    record {
      stays = λ row h.
          let one = times_in before row h in
          let c = count row in
          elim (cases_lt 0 (times rows row)) [
            | inl some ↦ inl (in_times rows row (omega arith))
            | inr none ↦ inr (in_times removed row (omega arith))
          ];
      comes = λ row h.
          let one = times_in rows row h in
          let c = count row in
          elim (cases_lt 0 (times before row)) [
            | inl some ↦ inl (in_times before row (omega arith))
            | inr none ↦ inr (in_times added row (omega arith))
          ];
      there = λ row h.
          let one = times_in added row h in
          let c = count row in
          let f = fits row in
          in_times rows row (omega arith);
    }

-- ---- loops that take rows out and put rows in

pub more_times : (rows : List Row) (i : ℕ) (d q : Row) → i < length rows → times (take (i + 1) rows) q ≡ times (take i rows) q + cond (same_row q (get_or rows i d)) 1 0
more_times rows i d q in' =
    elim (cases_Bool (same_row q (get_or rows i d))) [
      | inl y ↦ count_by_more_yes (same_row q) rows i d in' y ∙ rw y refl
      | inr z ↦ count_by_more_no (same_row q) rows i d in' z ∙ rw z (omega arith)
    ]

pub can_take : (left old removed : List Row) (found i : ℕ) (d : Row) → i < length removed → ((x : Row) → times removed x ≤ times old x + times (take found removed) x) → ((x : Row) → times left x + times (take i removed) x ≡ times old x + times (take found removed) x) → 1 ≤ times left (get_or removed i d)
can_take left old removed found i d in' fits so_far =
    let row = get_or removed i d in
    let f = fits row in
    let s = so_far row in
    let more = more_times removed i d row in' in
    let one = bit_one (same_row row row) (same_self row) in
    let le : times (take (i + 1) removed) row ≤ times removed row = sum_by-take-le (λ y. cond (same_row row y) 1 0) removed (i + 1) in
    omega arith

pub take_step : (removed : List Row) (i old left new : ℕ) (d q : Row) → i < length removed → new + cond (same_row q (get_or removed i d)) 1 0 ≡ left → left + times (take i removed) q ≡ old → new + times (take (i + 1) removed) q ≡ old
take_step removed i old left new d q in' one so_far = let more = more_times removed i d q in' in omega arith

pub times_all : (rows : List Row) (i : ℕ) (q : Row) → length rows ≤ i → times (take i rows) q ≡ times rows q
times_all rows i q past = ap (λ (rs : List Row). times rs q) (take_all i rows past)

pub put_small : (rows new : List Row) (row : Row) → new ≡ rows ++ row ∷ [] → row.metric < 2 ^ 32 → All (λ (r : Row). r.metric < 2 ^ 32) rows → All (λ (r : Row). r.metric < 2 ^ 32) new
put_small rows new row is small all = rw is (All-push (λ (r : Row). r.metric < 2 ^ 32) rows row all small)

pub all_small : (rows left : List Row) → left ≡ rows → IsBounded rows → All (λ (r : Row). r.metric < 2 ^ 32) left
all_small rows left is bounded = rw is (λ k d h. bounded.small (get_or rows k d) (Contains-get_or rows k d h))

pub moved_bounded : (rows sorted : List Row) → length rows < 2 ^ 32 → All (λ (r : Row). r.metric < 2 ^ 32) rows → IsPermutation rows sorted → IsBounded sorted
moved_bounded rows sorted few small moved =
    let long = length_permutation rows sorted moved in
    record {
      few = omega arith;
      small = λ row h. All-contains (λ (r : Row). r.metric < 2 ^ 32) rows row small (Contains-permutation sorted rows row (IsPermutation-sym rows sorted moved) h);
    }

pub moved_times : (rows sorted : List Row) (q : Row) → IsPermutation rows sorted → times sorted q ≡ times rows q
moved_times rows sorted q moved = sum_by-IsPermutation (λ y. cond (same_row q y) 1 0) rows sorted moved

-- ---- one row more behind all others

push_sorted : (rows : List Row) (row : Row) → IsNonDecreasingBy start rows → ((r : Row) → Contains rows r → start r ≤ start row) → IsNonDecreasingBy start (rows ++ row ∷ [])
push_sorted rows row sorted last i j d i_j l =
    let long = length-append rows (row ∷ []) in
    elim (cases_lt j (length rows)) [
      | inl less ↦
          let at_i = get_or_append_left rows (row ∷ []) d i (omega arith) in
          let at_j = get_or_append_left rows (row ∷ []) d j less in
          let le = sorted i j d i_j less in
          rw (at_i, at_j) le
      | inr not_less ↦
          let at_j : get_or (rows ++ row ∷ []) j d ≡ row = get_or_push rows row d j (omega arith) in
          elim (cases_lt i (length rows)) [
            | inl in' ↦
                let at_i = get_or_append_left rows (row ∷ []) d i in' in
                let le = last (get_or rows i d) (Contains-get_or rows i d in') in
                rw (at_i, at_j) le
            | inr not_in ↦
                let at_i : get_or (rows ++ row ∷ []) i d ≡ row = get_or_push rows row d i (omega arith) in
                rw (at_i, at_j) (omega arith)
          ]
    ]

pushed_times : (rows : List Row) (row q : Row) → times (rows ++ row ∷ []) q ≡ times rows q + cond (same_row q row) 1 0
pushed_times rows row q = sum_by_push (λ y. cond (same_row q y) 1 0) rows row

rises_from : (rows : List Row) (place : ℕ) (e : Row) → IsNonDecreasingBy start rows → place < length rows → (p : ℕ) → place ≤ p → AreFrom rows p (start (get_or rows place e))
rises_from rows place e sorted in' p le k d from l =
    let up = sorted place k d (omega arith) l in
    let same = ap start (get_or_default rows place e d in') in
    omega arith

later : (rows : List Row) (p q node : ℕ) → p ≤ q → AreFrom rows p node → AreFrom rows q node
later rows p q node le from k d h l = from k d (omega arith) l

pub lower : (rows : List Row) (p low node : ℕ) → low ≤ node → AreFrom rows p node → AreFrom rows p low
lower rows p low node le from k d h l = let up = from k d h l in omega arith

-- ---- a step of the exchange

pub exchange_start : (rows removed added merged : List Row) → merged ≡ [] → IsExchanged rows removed added merged 0 0 0
exchange_start rows removed added merged is =
    rw is (record {
      few_found = omega arith;
      few_from = omega arith;
      counts = λ x. refl;
      long = refl;
      sorted = λ i j d h l. absurd (omega arith);
      before_rows = λ row h. let l = h.1 in absurd (omega arith);
      before_added = λ row h. let l = h.1 in absurd (omega arith);
      small = λ k d l. absurd (omega arith);
    })

pub put_one : (rows removed added merged new : List Row) (place found from : ℕ) (e row : Row) → from < length added → row ≡ get_or added from e → row.metric < 2 ^ 32 → IsNonDecreasingBy start added → AreFrom rows place (start row) → new ≡ merged ++ row ∷ [] → IsExchanged rows removed added merged place found from → IsExchanged rows removed added new place found (from + 1)
put_one rows removed added merged new place found from e row in' is small sorted low pushed x =
    let long = x.long in
    let first : AreFrom added from (start row) = subst (λ (r : Row). AreFrom added from (start r)) (sym is) (rises_from added from e sorted in' from (omega arith)) in
    rw pushed (record {
      few_found = x.few_found;
      few_from = omega arith;
      counts = λ q.
          let count = x.counts q in
          let put = pushed_times merged row q in
          let more = more_times added from e q in' in
          let bits : bit (same_row q row) ≡ bit (same_row q (get_or added from e)) = ap (λ (r : Row). bit (same_row q r)) is in
          omega arith;
      long = let more = length-append merged (row ∷ []) in omega arith;
      sorted = push_sorted merged row x.sorted (λ r h. subst (λ (o : Row). start r ≤ start o) (sym is) (x.before_added r h from e (omega arith) in'));
      before_rows = λ r h. elim (Contains-push_cases merged row r h) [ inl was ↦ x.before_rows r was | inr now ↦ subst (λ (o : Row). AreFrom rows place (start o)) now low ];
      before_added = λ r h. elim (Contains-push_cases merged row r h) [ inl was ↦ later added from (from + 1) (start r) (omega arith) (x.before_added r was) | inr now ↦ subst (λ (o : Row). AreFrom added (from + 1) (start o)) now (later added from (from + 1) (start row) (omega arith) first) ];
      small = All-push (λ (r : Row). r.metric < 2 ^ 32) merged row x.small small;
    })

pub strip_more : (rows removed added merged new : List Row) (place found now from : ℕ) (e : Row) → place < length rows → IsBounded rows → IsNonDecreasingBy start rows → AreFrom added from (start (get_or rows place e)) → IsStripped (get_or rows place e) removed found now merged new → IsExchanged rows removed added merged place found from → IsExchanged rows removed added new (place + 1) now from
strip_more rows removed added merged new place found now from e in' bounded sorted low stripped x =
    let row = get_or rows place e in
    let long = x.long in
    let first : AreFrom rows (place + 1) (start row) = rises_from rows place e sorted in' (place + 1) (omega arith) in
    elim stripped [
      | inl gone ↦
          let less = gone.1 in
          let base : IsExchanged rows removed added merged (place + 1) (found + 1) from = record {
            few_found = omega arith;
            few_from = x.few_from;
            counts = λ q.
                let count = x.counts q in
                let more_rows = more_times rows place e q in' in
                let more_removed = more_times removed found e q gone.1 in
                let alike_ : bit (same_row q (get_or removed found e)) ≡ bit (same_row q row) = ap bit (same_as q row (get_or removed found e) (gone.2 e)) in
                omega arith;
            long = omega arith;
            sorted = x.sorted;
            before_rows = λ r h. later rows place (place + 1) (start r) (omega arith) (x.before_rows r h);
            before_added = x.before_added;
            small = x.small;
          } in
          subst (λ (n : ℕ). IsExchanged rows removed added new (place + 1) n from) (sym gone.0) (subst (λ (m : List Row). IsExchanged rows removed added m (place + 1) (found + 1) from) (sym gone.3) base)
      | inr kept ↦
          let base : IsExchanged rows removed added (merged ++ row ∷ []) (place + 1) found from = record {
            few_found = x.few_found;
            few_from = x.few_from;
            counts = λ q.
                let count = x.counts q in
                let put = pushed_times merged row q in
                let more = more_times rows place e q in' in
                omega arith;
            long = let more = length-append merged (row ∷ []) in omega arith;
            sorted = push_sorted merged row x.sorted (λ r h. x.before_rows r h place e (omega arith) in');
            before_rows = λ r h. elim (Contains-push_cases merged row r h) [ inl was ↦ later rows place (place + 1) (start r) (omega arith) (x.before_rows r was) | inr now_ ↦ subst (λ (o : Row). AreFrom rows (place + 1) (start o)) now_ first ];
            before_added = λ r h. elim (Contains-push_cases merged row r h) [ inl was ↦ x.before_added r was | inr now_ ↦ subst (λ (o : Row). AreFrom added from (start o)) now_ low ];
            small = All-push (λ (r : Row). r.metric < 2 ^ 32) merged row x.small (bounded.small row (Contains-get_or rows place e in'));
          } in
          subst (λ (n : ℕ). IsExchanged rows removed added new (place + 1) n from) (sym kept.0) (subst (λ (m : List Row). IsExchanged rows removed added m (place + 1) found from) (sym kept.1) base)
    ]

pub from_here : (rows : List Row) (place : ℕ) (e : Row) → IsNonDecreasingBy start rows → place < length rows → AreFrom rows place (start (get_or rows place e))
from_here rows place e sorted in' = rises_from rows place e sorted in' place (omega arith)

pub from_end : (rows : List Row) (place node : ℕ) → length rows ≤ place → AreFrom rows place node
from_end rows place node past k d h l = absurd (omega arith)

pub bounded_by : (rows : List Row) → length rows < 2 ^ 32 → All (λ (r : Row). r.metric < 2 ^ 32) rows → IsBounded rows
bounded_by rows few small = record { few = few; small = λ row h. All-contains (λ (r : Row). r.metric < 2 ^ 32) rows row small h }

-- the counts after the exchange, in terms of the lists as they were given
pub exchanged_counts : (rows removed added out come merged : List Row) (found : ℕ) (q : Row) → IsPermutation removed out → IsPermutation added come → IsExchanged rows out come merged (length rows) found (length come) → times merged q + times (take found out) q ≡ times rows q + times added q
exchanged_counts rows removed added out come merged found q of_out of_come x =
    let count = x.counts q in
    let all_rows = times_all rows (length rows) q (omega arith) in
    let all_come = times_all come (length come) q (omega arith) in
    let moved = moved_times added come q of_come in
    omega arith

-- ---- one row that is there

times_some : (rows : List Row) (q : Row) (k : ℕ) (d : Row) → k < length rows → same_row q (get_or rows k d) ≡ true → 1 ≤ times rows q
times_some [] q k d l e = absurd (omega arith)
times_some (x ∷ rows) q zero d l e = let split = times_cons q x rows in let one = bit_one (same_row q x) e in omega arith
times_some (x ∷ rows) q (suc k) d l e = let rest = times_some rows q k d (omega arith) e in let split = times_cons q x rows in omega arith

pub one_there : (rows : List Row) (i : ℕ) (row q d : Row) → i < length rows → row ≡ get_or rows i d → times (row ∷ []) q ≤ times rows q
one_there rows i row q d in' is =
    let split = times_cons q row [] in
    let empty : times [] q ≡ 0 = refl in
    elim (cases_Bool (same_row q row)) [
      | inl y ↦
          let one = bit_one (same_row q row) y in
          let some = times_some rows q i d in' (ap (same_row q) (sym is) ∙ y) in
          omega arith
      | inr z ↦ let none = bit_none (same_row q row) z in omega arith
    ]

-- ---- rows that are kept at once

pub keep_more : (rows removed added merged : List Row) (place found from n : ℕ) → place + n ≤ length rows → IsBounded rows → IsNonDecreasingBy start rows → ((k : ℕ) (d : Row) → k < place + n → AreFrom added from (start (get_or rows k d)))
    → IsExchanged rows removed added merged place found from → IsExchanged rows removed added (merged ++ take n (drop place rows)) (place + n) found from
keep_more rows removed added merged place found from zero within bounded sorted low x =
    subst (λ (p : ℕ). IsExchanged rows removed added (merged ++ []) p found from) {x = place} {y = place + 0} (omega arith)
    (subst (λ (m : List Row). IsExchanged rows removed added m place found from) (sym (append-nil merged)) x)
keep_more rows removed added merged place found from (suc n) within bounded sorted low x =
    let d = no_row in
    let row = get_or rows (place + n) d in
    let before = keep_more rows removed added merged place found from n (omega arith) bounded sorted (λ k e h. low k e (omega arith)) x in
    let inside : n < length (drop place rows) = omega (arith, length-drop place rows) in
    let one : take (suc n) (drop place rows) ≡ take n (drop place rows) ++ get_or (drop place rows) n d ∷ [] =
    ap (λ (m : ℕ). take m (drop place rows)) {x = suc n} {y = n + 1} (omega arith) ∙ take_more (drop place rows) n d inside in
    let is : merged ++ take (suc n) (drop place rows) ≡ (merged ++ take n (drop place rows)) ++ row ∷ [] =
    ap (λ (m : List Row). merged ++ m) (one ∙ ap (λ (r : Row). take n (drop place rows) ++ r ∷ []) (get_or-drop place rows n d)) ∙ sym (append_assoc merged (take n (drop place rows)) (row ∷ [])) in
    subst (λ (p : ℕ). IsExchanged rows removed added (merged ++ take (suc n) (drop place rows)) p found from) {x = place + n + 1} {y = place + suc n} (omega arith)
    (strip_more rows removed added (merged ++ take n (drop place rows)) (merged ++ take (suc n) (drop place rows)) (place + n) found found from d (omega arith) bounded sorted (low (place + n) d (omega arith)) (inr (refl, is)) before)

-- the rows of a list in order are no lower than its first
pub from_first : (list : List Row) (node : ℕ) (e : Row) → IsNonDecreasingBy start list → 0 < length list → node ≤ start (get_or list 0 e) → AreFrom list 0 node
from_first list node e sorted some low = lower list 0 node (start (get_or list 0 e)) low (from_here list 0 e sorted some)

pub keep_between : (rows removed added merged new : List Row) (place past found from : ℕ) → place ≤ past → past ≤ length rows → IsBounded rows → IsNonDecreasingBy start rows → ((k : ℕ) (d : Row) → k < past → AreFrom added from (start (get_or rows k d)))
    → new ≡ merged ++ take (past - place) (drop place rows) → IsExchanged rows removed added merged place found from → IsExchanged rows removed added new past found from
keep_between rows removed added merged new place past found from order within bounded sorted low is x =
    let sum : place + (past - place) ≡ past = omega arith in
    subst (λ (m : List Row). IsExchanged rows removed added m past found from) (sym is)
    (subst (λ (p : ℕ). IsExchanged rows removed added (merged ++ take (past - place) (drop place rows)) p found from) sum
    (keep_more rows removed added merged place found from (past - place) (omega arith) bounded sorted (λ k d h. low k d (omega arith)) x))

-- ---- the first and the last rows stay

pub first_push : (rows merged new : List Row) (row : Row) (many : ℕ) → new ≡ merged ++ row ∷ [] → HaveFirst rows merged many → HaveFirst rows new many
first_push rows merged new row many is first =
    let within = first.within in
    rw is (record {
      within = let more = length-append merged (row ∷ []) in omega arith;
      each = λ k d h. get_or_append_left merged (row ∷ []) d k (omega arith) ∙ first.each k d h;
    })

pub first_strip : (rows removed merged new : List Row) (row : Row) (found now many : ℕ) → IsStripped row removed found now merged new → HaveFirst rows merged many → HaveFirst rows new many
first_strip rows removed merged new row found now many stripped first =
    elim stripped [
      | inl gone ↦ subst (λ (m : List Row). HaveFirst rows m many) (sym gone.3) first
      | inr kept ↦ first_push rows merged new row many kept.1 first
    ]

pub first_kept : (rows none merged : List Row) (many : ℕ) → many ≤ length rows → none ≡ [] → merged ≡ none ++ take (many - 0) (drop 0 rows) → HaveFirst rows merged many
first_kept rows none merged many inside empty is =
    let items : merged ≡ take (many - 0) (drop 0 rows) = is ∙ ap (λ (m : List Row). m ++ take (many - 0) (drop 0 rows)) empty in
    let all = length-drop 0 rows in
    let long = ap length items ∙ length-take-le (many - 0) (drop 0 rows) (omega arith) in
    record {
      within = omega arith;
      each = λ k d h.
          let at_k : 0 + k ≡ k = omega arith in
          ap (λ (m : List Row). get_or m k d) items ∙ get_or-take (many - 0) (drop 0 rows) k d (omega arith) ∙ get_or-drop 0 rows k d ∙ ap (λ (n : ℕ). get_or rows n d) at_k;
    }

pub ends_none : (before rows : List Row) → HaveEnds before rows (record { first = 0; last = 0 })
ends_none before rows = record {
  within = omega arith;
  within_old = omega arith;
  first = λ k d h. absurd (omega arith);
  last = λ k d h. absurd (omega arith);
}

pub ends_first : (rows merged : List Row) (many : ℕ) → many ≤ length rows → HaveFirst rows merged many → HaveEnds rows merged (record { first = many; last = 0 })
ends_first rows merged many inside first =
    let within = first.within in
    record {
      within = omega arith;
      within_old = omega arith;
      first = first.each;
      last = λ k d h. absurd (omega arith);
    }

pub ends_both : (rows merged new : List Row) (many place : ℕ) → many ≤ place → place ≤ length rows → HaveFirst rows merged many → new ≡ merged ++ take (length rows - place) (drop place rows)
    → HaveEnds rows new (record { first = many; last = length rows - place })
ends_both rows merged new many place order inside first is =
    let within = first.within in
    let last = length rows - place in
    let rest = take last (drop place rows) in
    let left = length-drop place rows in
    let rest_long = length-take-le last (drop place rows) (omega arith) in
    let long = ap length is ∙ length-append merged rest in
    record {
      within = omega arith;
      within_old = omega arith;
      first = λ k d h. ap (λ (m : List Row). get_or m k d) is ∙ get_or_append_left merged rest d k (omega arith) ∙ first.each k d h;
      last = λ k d h.
          let new_at : length new - last + k ≡ length merged + k = omega arith in
          let old_at : place + k ≡ length rows - last + k = omega arith in
          ap (λ (n : ℕ). get_or new n d) new_at ∙ ap (λ (m : List Row). get_or m (length merged + k) d) is ∙ get_or-append-add merged rest k d
          ∙ get_or-take last (drop place rows) k d h ∙ get_or-drop place rows k d ∙ ap (λ (n : ℕ). get_or rows n d) old_at;
    }
