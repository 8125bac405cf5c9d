-- The search: what a settled node keeps true, and the end.

use Rattle.std.proofs.Common.{◌≡◌, ◌≢◌, ◌∙◌, ℕ, zero, suc, ◌+◌, ◌≤◌, ◌<◌, ◌^◌, Bool, true, false, not, cond, ◌==◌, if◌then◌else◌, List, [], ◌∷◌, length, get_or, Option, Some, None, refl, sym, ap, subst, arith, ◌⊎◌, inl, inr}
use Rattle.std.specs.List.{Contains, count_by, All}
use Rattle.std.specs.List.Sorted.{IsNonDecreasingBy, IsPermutation}
use Rattle.std.specs.Option.{is_some}
use Rattle.std.proofs.lemmas.Bool.{cases_eq, cases_lt, eq-eqb, ne_eqb}
use Rattle.std.proofs.lemmas.List.{get_or_default, take_all}
use Rattle.std.proofs.lemmas.List.Elements.{Contains-get_or, All-contains}
use Rattle.std.proofs.lemmas.List.Sums.{count_by_more_yes, sum_by-take-le, sum_by-cons}
use Rattle.std.proofs.lemmas.List.Sorted.{Contains-permutation, IsPermutation-sym, length_permutation}
use Rattle.spf_tree.specs.declared.row.Row.{Row}
use Rattle.spf_tree.specs.declared.label.Label.{Label}
use Rattle.spf_tree.specs.Walks.{start, end, IsWalk, IsWithin, AreLeast}
use Rattle.spf_tree.specs.Labels.{at}
use Rattle.spf_tree.specs.Search.{IsBounded}
use Rattle.spf_tree.specs.Labels.{names}
use Rattle.spf_tree.specs.Search.{IsCovered, IsNoNews, IsOffered, starts, HaveOffered, IsSearch, AreNamed, is_open, work}
use Rattle.spf_tree.proofs.WalkLemmas.{least}

-- ---- membership

pub contains_first : {X : Type 0} (x : X) (xs : List X) → Contains (x ∷ xs) x
contains_first x xs = (0, omega arith, refl)

pub contains_rest : {X : Type 0} (x y : X) (xs : List X) → Contains xs y → Contains (x ∷ xs) y
contains_rest x y xs h = let l = h.1 in (suc h.0, omega arith, h.2)

cases_at : {X : Type 0} (x y : X) (xs : List X) (k : ℕ) → k < length (x ∷ xs) → get_or (x ∷ xs) k y ≡ y → (x ≡ y) ⊎ Contains xs y
cases_at x y xs zero l e = inl e
cases_at x y xs (suc k) l e = inr (k, omega arith, e)

pub contains_cases : {X : Type 0} (x y : X) (xs : List X) → Contains (x ∷ xs) y → (x ≡ y) ⊎ Contains xs y
contains_cases x y xs h = cases_at x y xs h.0 h.1 h.2

pub contains_none : {X : Type 0} (x : X) → Contains [] x → ⊥
contains_none x h = let l = h.1 in absurd (omega arith)

-- ---- a step of the search for the first row

pub left_by : {X : Type 0} (f : X → ℕ) (xs : List X) (n m : ℕ) (e : X) → IsNonDecreasingBy f xs → m < length xs → f (get_or xs m e) < n → (k : ℕ) (d : X) → k < m + 1 → f (get_or xs k d) < n
left_by f xs n m e sorted in' low k d h =
    let up = sorted k m d (omega arith) in' in
    let same = ap f (get_or_default xs m d e in') in
    omega arith

pub right_by : {X : Type 0} (f : X → ℕ) (xs : List X) (n m : ℕ) (e : X) → IsNonDecreasingBy f xs → m < length xs → n ≤ f (get_or xs m e) → (k : ℕ) (d : X) → m ≤ k → k < length xs → n ≤ f (get_or xs k d)
right_by f xs n m e sorted in' high k d h l =
    let up = sorted m k d h l in
    let same = ap f (get_or_default xs m d e in') in
    omega arith

-- ---- facts of the first so many rows

pub upto_more : (rows : List Row) (P : Row → Type 0) (m : ℕ) (e : Row) → m < length rows → ((k : ℕ) (d : Row) → k < m → P (get_or rows k d)) → P (get_or rows m e) → (k : ℕ) (d : Row) → k < m + 1 → P (get_or rows k d)
upto_more rows P m e in' before here k d h =
    elim (cases_lt k m) [
      | inl less ↦ before k d less
      | inr not_less ↦
          let k_is : m ≡ k = omega arith in
          subst P (get_or_default rows m e d in' ∙ ap (λ (j : ℕ). get_or rows j d) k_is) here
    ]

pub upto_all : (rows : List Row) (P : Row → Type 0) (m : ℕ) → length rows ≤ m → ((k : ℕ) (d : Row) → k < m → P (get_or rows k d)) → (row : Row) → Contains rows row → P row
upto_all rows P m past h row there = let l = there.1 in subst P there.2 (h there.0 row (omega arith))

-- ---- what the rows from a node offer

pub cover_kept : (labels : List Label) (old new : List (ℕ × ℕ)) (n most : ℕ) → ((offer : ℕ × ℕ) → Contains old offer → Contains new offer) → IsCovered labels old n most → IsCovered labels new n most
cover_kept labels old new n most kept h =
    elim h [ inl w ↦ inl w | inr o ↦ inr (o.0, kept o.0 o.1, o.2, o.3) ]

pub news : (labels : List Label) (root n sum : ℕ) (queue : List (ℕ × ℕ)) → IsNoNews labels root n sum → n ≢ root → sum < 2 ^ 64 → IsCovered labels queue n sum
news labels root n sum queue h ne small =
    elim h [ inl e ↦ absurd (ne e) | inr rest ↦ elim rest [ inl big ↦ absurd (omega arith) | inr w ↦ inl w ] ]

-- the same for the row at m, and for all before
given_more : (rows : List Row) (root : ℕ) (labels : List Label) (node c m : ℕ) (e : Row) (old mid new : List (ℕ × ℕ)) → m < length rows
    → HaveOffered rows root labels node c old mid m
    → ((offer : ℕ × ℕ) → Contains mid offer → Contains new offer)
    → (end (get_or rows m e) ≢ root → c + (get_or rows m e).metric < 2 ^ 64 → IsCovered labels new (end (get_or rows m e)) (c + (get_or rows m e).metric))
    → (k : ℕ) (d : Row) → k < m + 1 → start (get_or rows k d) ≡ node → end (get_or rows k d) ≢ root → c + (get_or rows k d).metric < 2 ^ 64 → IsCovered labels new (end (get_or rows k d)) (c + (get_or rows k d).metric)
given_more rows root labels node c m e old mid new in' before kept here k d h =
    elim (cases_lt k m) [
      | inl less ↦ λ from ne small. cover_kept labels mid new (end (get_or rows k d)) (c + (get_or rows k d).metric) kept (before.given k d less from ne small)
      | inr not_less ↦
          let k_is : m ≡ k = omega arith in
          let same : get_or rows m e ≡ get_or rows k d = get_or_default rows m e d in' ∙ ap (λ (j : ℕ). get_or rows j d) k_is in
          λ from. subst (λ (r : Row). end r ≢ root → c + r.metric < 2 ^ 64 → IsCovered labels new (end r) (c + r.metric)) same here
    ]

pub one_more : (rows : List Row) (root : ℕ) (labels : List Label) (node c m : ℕ) (e : Row) (old mid new : List (ℕ × ℕ)) → m < length rows → start (get_or rows m e) ≡ node
    → HaveOffered rows root labels node c old mid m
    → IsOffered labels root (end (get_or rows m e)) (c + (get_or rows m e).metric) mid new
    → HaveOffered rows root labels node c old new (m + 1)
one_more rows root labels node c m e old mid new in' from before offered =
    let row = get_or rows m e in
    let few = before.few in
    let count = count_by_more_yes (starts node) rows m e in' (eq-eqb (start row) node from) in
    elim offered [
      | inl same ↦
          let kept : (offer : ℕ × ℕ) → Contains mid offer → Contains new offer = λ o h. subst (λ (q : List (ℕ × ℕ)). Contains q o) (sym same.0) h in
          let long = ap length same.0 in
          record {
            kept = λ o h. kept o (before.kept o h);
            from = λ o h. before.from o (subst (λ (q : List (ℕ × ℕ)). Contains q o) same.0 h);
            given = given_more rows root labels node c m e old mid new in' before kept (news labels root (end row) (c + row.metric) new same.1);
            few = omega arith;
          }
      | inr pushed ↦
          let sum : ℕ × ℕ = (c + row.metric, end row) in
          let there : (offer : ℕ × ℕ) → Contains (sum ∷ mid) offer → Contains new offer = λ o h. Contains-permutation (sum ∷ mid) new o pushed.1 h in
          let kept : (offer : ℕ × ℕ) → Contains mid offer → Contains new offer = λ o h. there o (contains_rest sum o mid h) in
          let long = length_permutation (sum ∷ mid) new pushed.1 in
          record {
            kept = λ o h. kept o (before.kept o h);
            from = λ o h.
                elim (contains_cases sum o mid (Contains-permutation new (sum ∷ mid) o (IsPermutation-sym (sum ∷ mid) new pushed.1) h)) [
                  | inl is ↦ inr (row, Contains-get_or rows m e in', from, pushed.0, ap (λ (p : ℕ × ℕ). p.1) is, ap (λ (p : ℕ × ℕ). p.0) is)
                  | inr older ↦ before.from o older
                ];
            given = given_more rows root labels node c m e old mid new in' before kept (λ ne small. inr (sum, there sum (contains_first sum mid), refl, omega arith));
            few = omega arith;
          }
    ]

-- no row from here on starts at the node
pub finish : (rows : List Row) (root : ℕ) (labels : List Label) (node c m : ℕ) (e : Row) (old new : List (ℕ × ℕ)) → m < length rows → IsNonDecreasingBy start rows → node < start (get_or rows m e)
    → HaveOffered rows root labels node c old new m → HaveOffered rows root labels node c old new (length rows)
finish rows root labels node c m e old new in' sorted past before =
    let few = before.few in
    let whole = ap (count_by (starts node)) (take_all (length rows) rows (omega arith)) in
    let part = sum_by-take-le (λ r. cond (starts node r) 1 0) rows m in
    record {
      kept = before.kept;
      from = before.from;
      given = λ k d h from.
          elim (cases_lt k m) [
            | inl less ↦ before.given k d less from
            | inr not_less ↦
                let up = sorted m k d not_less h in
                let same = ap start (get_or_default rows m d e in') in
                absurd (omega arith)
          ];
      few = omega arith;
    }

-- ---- one node is settled

-- the labels with one more
abbrev pub IsLabelled : List Label → List Label → ℕ → ℕ → Type 0
IsLabelled old new node c = (q : ℕ) → at new q ≡ (if q == node then Some c else at old q)

pub label_here : (old new : List Label) (node c : ℕ) → IsLabelled old new node c → at new node ≡ Some c
label_here old new node c h = h node ∙ rw (eq-eqb node node refl) refl

pub label_there : (old new : List Label) (node c q : ℕ) → IsLabelled old new node c → q ≢ node → at new q ≡ at old q
label_there old new node c q h ne = h q ∙ rw (ne_eqb q node ne) refl

pub some_same : (a b : ℕ) (o : Option ℕ) → o ≡ Some a → o ≡ Some b → b ≡ a
some_same a b o e f = cc

not_within : (o : Option ℕ) (most : ℕ) → o ≡ None → IsWithin o most → ⊥
not_within o most e w = rw e at w

cover_step : (rows : List Row) (root : ℕ) (old new : List Label) (queue rest later : List (ℕ × ℕ)) (offer : ℕ × ℕ) (n most : ℕ) → IsPermutation queue (offer ∷ rest) → at old offer.1 ≡ None → IsLabelled old new offer.1 offer.0
    → ((o : ℕ × ℕ) → Contains rest o → Contains later o) → IsCovered old queue n most → IsCovered new later n most
cover_step rows root old new queue rest later offer n most perm none labelled kept h =
    elim h [
      | inl w ↦
          elim (cases_eq n offer.1) [
            | inl is ↦ absurd (not_within (at old offer.1) most none (subst (λ (m : ℕ). IsWithin (at old m) most) is w))
            | inr ne ↦ inl (subst (λ (o : Option ℕ). IsWithin o most) (sym (label_there old new offer.1 offer.0 n labelled ne)) w)
          ]
      | inr o ↦
          elim (contains_cases offer o.0 rest (Contains-permutation queue (offer ∷ rest) o.0 perm o.1)) [
            | inl is ↦
                let node : offer.1 ≡ n = ap (λ (p : ℕ × ℕ). p.1) is ∙ o.2 in
                let cheap : offer.0 ≤ most = subst (λ (p : ℕ × ℕ). p.0 ≤ most) (sym is) o.3 in
                inl (subst (λ (m : ℕ). IsWithin (at new m) most) node (subst (λ (v : Option ℕ). IsWithin v most) (sym (label_here old new offer.1 offer.0 labelled)) cheap))
            | inr there ↦ inr (o.0, kept o.0 there, o.2, o.3)
          ]
    ]

pub settle : (rows : List Row) (root : ℕ) (old new : List Label) (queue rest later : List (ℕ × ℕ)) (offer : ℕ × ℕ)
    → IsSearch rows root old queue → AreNamed rows root (names old)
    → IsPermutation queue (offer ∷ rest) → All (λ (o : ℕ × ℕ). offer.0 ≤ o.0) rest → at old offer.1 ≡ None
    → names new ≡ names old → IsLabelled old new offer.1 offer.0
    → HaveOffered rows root new offer.1 offer.0 rest later (length rows)
    → IsSearch rows root new later
settle rows root old new queue rest later offer search named perm least_ none same_names labelled offered =
    let popped : Contains queue offer = Contains-permutation (offer ∷ rest) queue offer (IsPermutation-sym queue (offer ∷ rest) perm) (contains_first offer rest) in
    let older : (o : ℕ × ℕ) → Contains rest o → Contains queue o = λ o h. Contains-permutation (offer ∷ rest) queue o (IsPermutation-sym queue (offer ∷ rest) perm) (contains_rest offer o rest h) in
    let cover : (n most : ℕ) → IsCovered old queue n most → IsCovered new later n most = λ n most h. cover_step rows root old new queue rest later offer n most perm none labelled offered.kept h in
    let way = search.offered offer popped in
    record {
      upper = record {
        walk = λ n d e.
            elim (cases_eq n offer.1) [
              | inl is ↦
                  let d_is : d ≡ offer.0 = some_same offer.0 d (at new offer.1) (label_here old new offer.1 offer.0 labelled) (subst (λ (m : ℕ). at new m ≡ Some d) is e) in
                  let cheap = way.2 in
                  (way.0, subst (λ (m : ℕ). IsWalk rows root way.0 m) (sym is) way.1, omega arith)
              | inr ne ↦ search.upper.walk n d (sym (label_there old new offer.1 offer.0 n labelled ne) ∙ e)
            ];
      };
      offered = λ o h.
          elim (offered.from o h) [
            | inl there ↦ search.offered o (older o there)
            | inr row ↦
                let cheap = way.2 in
                let sum = row.5 in
                (row.0 ∷ way.0, (row.1, row.4, (λ is. row.3 (row.4 ∙ is)), subst (λ (m : ℕ). IsWalk rows root way.0 m) (sym row.2) way.1), omega arith)
          ];
      relaxed = λ row d there ne e small.
          elim (cases_eq (start row) offer.1) [
            | inl is ↦
                let d_is : d ≡ offer.0 = some_same offer.0 d (at new offer.1) (label_here old new offer.1 offer.0 labelled) (subst (λ (m : ℕ). at new m ≡ Some d) is e) in
                let given = offered.given there.0 row there.1 in
                let given_row : start row ≡ offer.1 → end row ≢ root → offer.0 + row.metric < 2 ^ 64 → IsCovered new later (end row) (offer.0 + row.metric) =
                subst (λ (r : Row). start r ≡ offer.1 → end r ≢ root → offer.0 + r.metric < 2 ^ 64 → IsCovered new later (end r) (offer.0 + r.metric)) there.2 given in
                subst (λ (v : ℕ). IsCovered new later (end row) (v + row.metric)) (sym d_is) (given_row is ne (omega arith))
            | inr other ↦ cover (end row) (d + row.metric) (search.relaxed row d there ne (sym (label_there old new offer.1 offer.0 (start row) labelled other) ∙ e) small)
          ];
      zero = cover root 0 search.zero;
      order = λ n d o e h.
          let below : d ≤ offer.0 =
          elim (cases_eq n offer.1) [
            | inl is ↦ let d_is : d ≡ offer.0 = some_same offer.0 d (at new offer.1) (label_here old new offer.1 offer.0 labelled) (subst (λ (m : ℕ). at new m ≡ Some d) is e) in omega arith
            | inr ne ↦ search.order n d offer (sym (label_there old new offer.1 offer.0 n labelled ne) ∙ e) popped
          ] in
          elim (offered.from o h) [
            | inl there ↦ let up = All-contains (λ (p : ℕ × ℕ). offer.0 ≤ p.0) rest o least_ there in omega arith
            | inr row ↦ let sum = row.5 in omega arith
          ];
      named = λ o h.
          subst (λ (ns : List ℕ). Contains ns o.1) (sym same_names)
          (elim (offered.from o h) [
            | inl there ↦ search.named o (older o there)
            | inr row ↦ subst (λ (m : ℕ). Contains (names old) m) row.4 (named.ends row.0 row.1)
          ]);
    }

-- ---- an offer to a node that has a label is let go

pub skip : (rows : List Row) (root : ℕ) (labels : List Label) (queue rest : List (ℕ × ℕ)) (offer : ℕ × ℕ) (d : ℕ) → IsSearch rows root labels queue → IsPermutation queue (offer ∷ rest) → at labels offer.1 ≡ Some d → IsSearch rows root labels rest
skip rows root labels queue rest offer d search perm some =
    let older : (o : ℕ × ℕ) → Contains rest o → Contains queue o = λ o h. Contains-permutation (offer ∷ rest) queue o (IsPermutation-sym queue (offer ∷ rest) perm) (contains_rest offer o rest h) in
    let popped : Contains queue offer = Contains-permutation (offer ∷ rest) queue offer (IsPermutation-sym queue (offer ∷ rest) perm) (contains_first offer rest) in
    let below : d ≤ offer.0 = search.order offer.1 d offer some popped in
    let cover : (n most : ℕ) → IsCovered labels queue n most → IsCovered labels rest n most = λ n most h.
    elim h [
      | inl w ↦ inl w
      | inr o ↦
          elim (contains_cases offer o.0 rest (Contains-permutation queue (offer ∷ rest) o.0 perm o.1)) [
            | inl is ↦
                let node : offer.1 ≡ n = ap (λ (p : ℕ × ℕ). p.1) is ∙ o.2 in
                let cheap : offer.0 ≤ most = subst (λ (p : ℕ × ℕ). p.0 ≤ most) (sym is) o.3 in
                inl (subst (λ (m : ℕ). IsWithin (at labels m) most) node (subst (λ (v : Option ℕ). IsWithin v most) (sym some) (omega arith)))
            | inr there ↦ inr (o.0, there, o.2, o.3)
          ]
    ] in
    record {
      upper = search.upper;
      offered = λ o h. search.offered o (older o h);
      relaxed = λ row c there ne e small. cover (end row) (c + row.metric) (search.relaxed row c there ne e small);
      zero = cover root 0 search.zero;
      order = λ n c o e h. search.order n c o e (older o h);
      named = λ o h. search.named o (older o h);
    }

-- ---- nothing is offered any more

pub all_within : (labels : List Label) (n most : ℕ) → IsCovered labels [] n most → IsWithin (at labels n) most
all_within labels n most h = elim h [ inl w ↦ w | inr o ↦ absurd (contains_none o.0 o.1) ]

pub done : (rows : List Row) (root : ℕ) (labels : List Label) → IsBounded rows → IsSearch rows root labels [] → AreLeast rows root (at labels)
done rows root labels bounded search =
    least rows root labels bounded (all_within labels root 0 search.zero)
    (record { row = λ row c there ne e small. all_within labels (end row) (c + row.metric) (search.relaxed row c there ne e small) })
    search.upper

-- ---- the work left falls

-- what an index gives past the end
abbrev pub no_row : Row
no_row = record { from = record { system = record { 0 = [] }; pseudonode = 0 }; to = record { system = record { 0 = [] }; pseudonode = 0 }; metric = 0 }

pub some_of : (o : Option ℕ) → is_some o ≡ true → (d : ℕ) × (o ≡ Some d)
some_of None h = cc
some_of (Some d) h = (d, refl)

pub none_of : (o : Option ℕ) → is_some o ≡ false → o ≡ None
none_of None h = refl
none_of (Some d) h = cc

count_step : {X : Type 0} (p q s : X → Bool) (x : X) (xs : List X) → cond (p x) 1 0 ≡ cond (q x) 1 0 + cond (s x) 1 0 → count_by p xs ≡ count_by q xs + count_by s xs → count_by p (x ∷ xs) ≡ count_by q (x ∷ xs) + count_by s (x ∷ xs)
count_step p q s x xs h k =
    let of_p : count_by p (x ∷ xs) ≡ cond (p x) 1 0 + count_by p xs = sum_by-cons (λ y. cond (p y) 1 0) x xs in
    let of_q : count_by q (x ∷ xs) ≡ cond (q x) 1 0 + count_by q xs = sum_by-cons (λ y. cond (q y) 1 0) x xs in
    let of_s : count_by s (x ∷ xs) ≡ cond (s x) 1 0 + count_by s xs = sum_by-cons (λ y. cond (s y) 1 0) x xs in
    omega arith

open_split : (rows : List Row) (old new : List Label) (node c : ℕ) → at old node ≡ None → IsLabelled old new node c → count_by (is_open old) rows ≡ count_by (is_open new) rows + count_by (starts node) rows
open_split [] old new node c none labelled = refl
open_split (row ∷ rows) old new node c none labelled =
    count_step (is_open old) (is_open new) (starts node) row rows
    (elim (cases_eq (start row) node) [
      | inl is ↦
          let before : is_open old row ≡ true = ap (λ (o : Option ℕ). not (is_some o)) (ap (at old) is ∙ none) in
          let after : is_open new row ≡ false = ap (λ (o : Option ℕ). not (is_some o)) (ap (at new) is ∙ label_here old new node c labelled) in
          rw (before, after, eq-eqb (start row) node is) refl
      | inr ne ↦
          let same : is_open new row ≡ is_open old row = ap (λ (o : Option ℕ). not (is_some o)) (label_there old new node c (start row) labelled ne) in
          rw (same, ne_eqb (start row) node ne) (omega arith)
    ])
    (open_split rows old new node c none labelled)

pub settle_less : (rows : List Row) (root : ℕ) (old new : List Label) (queue rest later : List (ℕ × ℕ)) (offer : ℕ × ℕ) → IsPermutation queue (offer ∷ rest) → at old offer.1 ≡ None → IsLabelled old new offer.1 offer.0 → HaveOffered rows root new offer.1 offer.0 rest later (length rows) → work rows new later < work rows old queue
settle_less rows root old new queue rest later offer perm none labelled offered =
    let split = open_split rows old new offer.1 offer.0 none labelled in
    let long = length_permutation queue (offer ∷ rest) perm in
    let few = offered.few in
    let whole = ap (count_by (starts offer.1)) (take_all (length rows) rows (omega arith)) in
    omega arith

pub skip_less : (rows : List Row) (labels : List Label) (queue rest : List (ℕ × ℕ)) (offer : ℕ × ℕ) → IsPermutation queue (offer ∷ rest) → work rows labels rest < work rows labels queue
skip_less rows labels queue rest offer perm = let long = length_permutation queue (offer ∷ rest) perm in omega arith

pub popped_named : (rows : List Row) (root : ℕ) (labels : List Label) (queue rest : List (ℕ × ℕ)) (offer : ℕ × ℕ) → IsSearch rows root labels queue → IsPermutation queue (offer ∷ rest) → Contains (names labels) offer.1
popped_named rows root labels queue rest offer search perm =
    search.named offer (Contains-permutation (offer ∷ rest) queue offer (IsPermutation-sym queue (offer ∷ rest) perm) (contains_first offer rest))

-- ---- the beginning

one_offer : (n c : ℕ) (queue : List (ℕ × ℕ)) → IsPermutation ((c, n) ∷ []) queue → (o : ℕ × ℕ) → Contains queue o → (c, n) ≡ o
one_offer n c queue perm o h =
    elim (contains_cases (c, n) o [] (Contains-permutation queue ((c, n) ∷ []) o (IsPermutation-sym ((c, n) ∷ []) queue perm) h)) [ inl is ↦ is | inr none ↦ absurd (contains_none o none) ]

pub begin : (rows : List Row) (root : ℕ) (labels : List Label) (queue : List (ℕ × ℕ)) → Contains (names labels) root → ((q : ℕ) → at labels q ≡ None) → IsPermutation ((0, root) ∷ []) queue → IsSearch rows root labels queue
begin rows root labels queue named none perm =
    let no : (n d : ℕ) → at labels n ≡ Some d → ⊥ = λ n d e. let f = none n in cc in
    let only = one_offer root 0 queue perm in
    record {
      upper = record { walk = λ n d e. absurd (no n d e) };
      offered = λ o h. ([], sym (ap (λ (p : ℕ × ℕ). p.1) (only o h)), omega arith);
      relaxed = λ row c there ne e. absurd (no (start row) c e);
      zero = inr ((0, root), Contains-permutation ((0, root) ∷ []) queue (0, root) perm (contains_first (0, root) []), refl, omega arith);
      order = λ n c o e. absurd (no n c e);
      named = λ o h. subst (λ (m : ℕ). Contains (names labels) m) (ap (λ (p : ℕ × ℕ). p.1) (only o h)) named;
    }
