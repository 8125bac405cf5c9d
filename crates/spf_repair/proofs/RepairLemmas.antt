-- Nodes settled anew, and their count.

use Rattle.std.proofs.Common.{◌≡◌, ◌≢◌, ◌∙◌, ℕ, zero, suc, ◌+◌, ◌*◌, ◌≤◌, ◌<◌, ◌^◌, false, List, [], ◌∷◌, length, get_or, Option, Some, None, refl, sym, ap, subst, arith, inl, inr}
use Rattle.std.specs.List.{Contains, count_by, sum_by, All, IsDistinct, AllByRecursion}
use Rattle.std.specs.Prelude.{nat_eq}
use Rattle.std.specs.List.Sorted.{IsPermutation}
use Rattle.std.proofs.Math.Nat.{mul-le-mul_left}
use Rattle.std.proofs.lemmas.Bool.{cases_eq, cases_lt, ne_eqb}
use Rattle.std.proofs.lemmas.List.{get_or_default, take_all}
use Rattle.std.proofs.lemmas.List.Elements.{All-contains, recursion_from_All}
use Rattle.std.proofs.lemmas.List.Sums.{sum_by-cons, count_by-le-length}
use Rattle.std.proofs.lemmas.List.Sorted.{Contains-permutation, IsPermutation-sym, length_permutation}
use Rattle.std.proofs.lemmas.Map.Keys.{IsDistinct-cons}
use Rattle.spf_tree.specs.declared.row.Row.{Row}
use Rattle.spf_tree.specs.declared.label.Label.{Label}
use Rattle.spf_tree.specs.Walks.{start, end, IsWalk, IsWithin, AreLeast}
use Rattle.spf_tree.specs.Labels.{at}
use Rattle.spf_tree.specs.Search.{IsBounded}
use Rattle.spf_tree.specs.Labels.{names}
use Rattle.spf_tree.specs.Search.{IsCovered, starts, HaveOffered, AreNamed}
use Rattle.spf_repair.specs.Repair.{IsLoose, IsSettled, value, potential, effort, IsCounted}
use Rattle.spf_tree.proofs.WalkLemmas.{within_more, least}
use Rattle.spf_tree.proofs.SearchLemmas.{IsLabelled, some_same, label_here, label_there, contains_first, contains_rest, contains_cases, all_within}

-- ---- one node is settled

pub popped : (queue rest : List (ℕ × ℕ)) (offer : ℕ × ℕ) → IsPermutation queue (offer ∷ rest) → Contains queue offer
popped queue rest offer perm = Contains-permutation (offer ∷ rest) queue offer (IsPermutation-sym queue (offer ∷ rest) perm) (contains_first offer rest)

older : (queue rest : List (ℕ × ℕ)) (offer : ℕ × ℕ) → IsPermutation queue (offer ∷ rest) → (o : ℕ × ℕ) → Contains rest o → Contains queue o
older queue rest offer perm o h = Contains-permutation (offer ∷ rest) queue o (IsPermutation-sym queue (offer ∷ rest) perm) (contains_rest offer o rest h)

-- a label that is not within a cost is above it
above : (o : Option ℕ) (c most : ℕ) → (IsWithin o c → ⊥) → IsWithin o most → c ≤ most
above o c most better w =
    elim (cases_lt most c) [
      | inl less ↦ absurd (better (within_more o most c (omega arith) w))
      | inr not_less ↦ not_less
    ]

cover_better : (old new : List Label) (queue rest later : List (ℕ × ℕ)) (offer : ℕ × ℕ) (n most : ℕ) → IsPermutation queue (offer ∷ rest) → (IsWithin (at old offer.1) offer.0 → ⊥) → IsLabelled old new offer.1 offer.0
    → ((o : ℕ × ℕ) → Contains rest o → Contains later o) → IsCovered old queue n most → IsCovered new later n most
cover_better old new queue rest later offer n most perm better labelled kept h =
    let here : offer.1 ≡ n → offer.0 ≤ most → IsWithin (at new n) most = λ node cheap. subst (λ (m : ℕ). IsWithin (at new m) most) node (subst (λ (v : Option ℕ). IsWithin v most) (sym (label_here old new offer.1 offer.0 labelled)) cheap) in
    elim h [
      | inl w ↦
          elim (cases_eq n offer.1) [
            | inl is ↦ inl (here (sym is) (above (at old offer.1) offer.0 most better (subst (λ (m : ℕ). IsWithin (at old m) most) is w)))
            | inr ne ↦ inl (subst (λ (o : Option ℕ). IsWithin o most) (sym (label_there old new offer.1 offer.0 n labelled ne)) w)
          ]
      | inr o ↦
          elim (contains_cases offer o.0 rest (Contains-permutation queue (offer ∷ rest) o.0 perm o.1)) [
            | inl is ↦ inl (here (ap (λ (p : ℕ × ℕ). p.1) is ∙ o.2) (subst (λ (p : ℕ × ℕ). p.0 ≤ most) (sym is) o.3))
            | inr there ↦ inr (o.0, kept o.0 there, o.2, o.3)
          ]
    ]

pub settle_loose : (rows : List Row) (root : ℕ) (old new : List Label) (queue rest later : List (ℕ × ℕ)) (offer : ℕ × ℕ)
    → IsLoose rows root old queue → AreNamed rows root (names old)
    → IsPermutation queue (offer ∷ rest) → (IsWithin (at old offer.1) offer.0 → ⊥)
    → names new ≡ names old → IsLabelled old new offer.1 offer.0
    → HaveOffered rows root new offer.1 offer.0 rest later (length rows)
    → IsLoose rows root new later
settle_loose rows root old new queue rest later offer search named perm better same_names labelled offered =
    let pop = popped queue rest offer perm in
    let old_one = older queue rest offer perm in
    let cover : (n most : ℕ) → IsCovered old queue n most → IsCovered new later n most = λ n most h. cover_better old new queue rest later offer n most perm better labelled offered.kept h in
    let way = search.offered offer pop in
    record {
      upper = record {
        walk = λ n d e.
            elim (cases_eq n offer.1) [
              | inl is ↦
                  let d_is : d ≡ offer.0 = some_same offer.0 d (at new offer.1) (label_here old new offer.1 offer.0 labelled) (subst (λ (m : ℕ). at new m ≡ Some d) is e) in
                  let cheap = way.2 in
                  (way.0, subst (λ (m : ℕ). IsWalk rows root way.0 m) (sym is) way.1, omega arith)
              | inr ne ↦ search.upper.walk n d (sym (label_there old new offer.1 offer.0 n labelled ne) ∙ e)
            ];
      };
      offered = λ o h.
          elim (offered.from o h) [
            | inl there ↦ search.offered o (old_one o there)
            | inr row ↦
                let cheap = way.2 in
                let sum = row.5 in
                (row.0 ∷ way.0, (row.1, row.4, (λ is. row.3 (row.4 ∙ is)), subst (λ (m : ℕ). IsWalk rows root way.0 m) (sym row.2) way.1), omega arith)
          ];
      relaxed = λ row d there ne e small.
          elim (cases_eq (start row) offer.1) [
            | inl is ↦
                let d_is : d ≡ offer.0 = some_same offer.0 d (at new offer.1) (label_here old new offer.1 offer.0 labelled) (subst (λ (m : ℕ). at new m ≡ Some d) is e) in
                let given = offered.given there.0 row there.1 in
                let given_row : start row ≡ offer.1 → end row ≢ root → offer.0 + row.metric < 2 ^ 64 → IsCovered new later (end row) (offer.0 + row.metric) =
                subst (λ (r : Row). start r ≡ offer.1 → end r ≢ root → offer.0 + r.metric < 2 ^ 64 → IsCovered new later (end r) (offer.0 + r.metric)) there.2 given in
                subst (λ (v : ℕ). IsCovered new later (end row) (v + row.metric)) (sym d_is) (given_row is ne (omega arith))
            | inr other ↦ cover (end row) (d + row.metric) (search.relaxed row d there ne (sym (label_there old new offer.1 offer.0 (start row) labelled other) ∙ e) small)
          ];
      zero = cover root 0 search.zero;
      named = λ o h.
          subst (λ (ns : List ℕ). Contains ns o.1) (sym same_names)
          (elim (offered.from o h) [
            | inl there ↦ search.named o (old_one o there)
            | inr row ↦ subst (λ (m : ℕ). Contains (names old) m) row.4 (named.ends row.0 row.1)
          ]);
    }

pub settled_is : (rows : List Row) (root : ℕ) (old new : List Label) (queue rest later : List (ℕ × ℕ)) (offer : ℕ × ℕ) → offer.0 < 2 ^ 64
    → IsPermutation queue (offer ∷ rest) → All (λ (o : ℕ × ℕ). offer.0 ≤ o.0) rest → (IsWithin (at old offer.1) offer.0 → ⊥) → IsLabelled old new offer.1 offer.0
    → HaveOffered rows root new offer.1 offer.0 rest later (length rows) → IsSettled rows old new queue later offer.0 offer.1
settled_is rows root old new queue rest later offer fits perm least_ better labelled offered =
    let long = length_permutation queue (offer ∷ rest) perm in
    let few = offered.few in
    let whole = ap (count_by (starts offer.1)) (take_all (length rows) rows (omega arith)) in
    let most = count_by-le-length (starts offer.1) rows in
    record {
      fits = fits;
      better = better;
      labelled = labelled;
      popped = popped queue rest offer perm;
      least = λ o h.
          elim (contains_cases offer o rest (Contains-permutation queue (offer ∷ rest) o perm h)) [
            | inl is ↦ subst (λ (p : ℕ × ℕ). offer.0 ≤ p.0) is (omega arith)
            | inr there ↦ All-contains (λ (p : ℕ × ℕ). offer.0 ≤ p.0) rest o least_ there
          ];
      after = λ o h.
          elim (offered.from o h) [
            | inl there ↦ All-contains (λ (p : ℕ × ℕ). offer.0 ≤ p.0) rest o least_ there
            | inr row ↦ let sum = row.5 in omega arith
          ];
      few = omega arith;
    }

-- ---- an offer that is no better than the label is let go

pub skip_loose : (rows : List Row) (root : ℕ) (labels : List Label) (queue rest : List (ℕ × ℕ)) (offer : ℕ × ℕ) → IsLoose rows root labels queue → IsPermutation queue (offer ∷ rest) → IsWithin (at labels offer.1) offer.0 → IsLoose rows root labels rest
skip_loose rows root labels queue rest offer search perm within =
    let old_one = older queue rest offer perm in
    let cover : (n most : ℕ) → IsCovered labels queue n most → IsCovered labels rest n most = λ n most h.
    elim h [
      | inl w ↦ inl w
      | inr o ↦
          elim (contains_cases offer o.0 rest (Contains-permutation queue (offer ∷ rest) o.0 perm o.1)) [
            | inl is ↦
                let node : offer.1 ≡ n = ap (λ (p : ℕ × ℕ). p.1) is ∙ o.2 in
                let cheap : offer.0 ≤ most = subst (λ (p : ℕ × ℕ). p.0 ≤ most) (sym is) o.3 in
                inl (subst (λ (m : ℕ). IsWithin (at labels m) most) node (within_more (at labels offer.1) offer.0 most cheap within))
            | inr there ↦ inr (o.0, there, o.2, o.3)
          ]
    ] in
    record {
      upper = search.upper;
      offered = λ o h. search.offered o (old_one o h);
      relaxed = λ row c there ne e small. cover (end row) (c + row.metric) (search.relaxed row c there ne e small);
      zero = cover root 0 search.zero;
      named = λ o h. search.named o (old_one o h);
    }

pub skip_fewer : (queue rest : List (ℕ × ℕ)) (offer : ℕ × ℕ) → IsPermutation queue (offer ∷ rest) → (length rest + 1 ≡ length queue) × ((o : ℕ × ℕ) → Contains rest o → Contains queue o)
skip_fewer queue rest offer perm = let long = length_permutation queue (offer ∷ rest) perm in (omega arith, older queue rest offer perm)

-- ---- nothing is offered any more

pub done_loose : (rows : List Row) (root : ℕ) (labels : List Label) → IsBounded rows → IsLoose rows root labels [] → AreLeast rows root (at labels)
done_loose rows root labels bounded search =
    least rows root labels bounded (all_within labels root 0 search.zero)
    (record { row = λ row c there ne e small. all_within labels (end row) (c + row.metric) (search.relaxed row c there ne e small) })
    search.upper

-- ---- each settling takes from the sum of the labels

value_above : (o : Option ℕ) (c : ℕ) → (IsWithin o c → ⊥) → c < 2 ^ 64 → c + 1 ≤ value o
value_above None c better fits = omega arith
value_above (Some h) c better fits =
    elim (cases_lt c h) [ inl less ↦ omega arith | inr not_less ↦ absurd (better not_less) ]

sum_le : (f h : ℕ → ℕ) (ns : List ℕ) → ((n : ℕ) → f n ≤ h n) → sum_by f ns ≤ sum_by h ns
sum_le f h [] le = omega arith
sum_le f h (n ∷ ns) le = rw (sum_by-cons f n ns, sum_by-cons h n ns) (let one = le n in let rest = sum_le f h ns le in omega arith)

sum_less : (f h : ℕ → ℕ) (ns : List ℕ) (to k : ℕ) → ((n : ℕ) → f n ≤ h n) → f to + 1 ≤ h to → k < length ns → get_or ns k to ≡ to → sum_by f ns + 1 ≤ sum_by h ns
sum_less f h [] to k le less l e = absurd (omega arith)
sum_less f h (n ∷ ns) to zero le less l e =
    let here : f n + 1 ≤ h n = subst (λ (m : ℕ). f m + 1 ≤ h m) (sym e) less in
    rw (sum_by-cons f n ns, sum_by-cons h n ns) (let rest = sum_le f h ns le in omega arith)
sum_less f h (n ∷ ns) to (suc k) le less l e =
    rw (sum_by-cons f n ns, sum_by-cons h n ns) (let one = le n in let rest = sum_less f h ns to k le less (omega arith) e in omega arith)

potential_less : (old new : List Label) (c node : ℕ) → Contains (names old) node → names new ≡ names old → IsLabelled old new node c → (IsWithin (at old node) c → ⊥) → c < 2 ^ 64 → potential new + 1 ≤ potential old
potential_less old new c node named same labelled better fits =
    let f : ℕ → ℕ = λ n. value (at new n) in
    let h : ℕ → ℕ = λ n. value (at old n) in
    let here : f node + 1 ≤ h node = subst (λ (o : Option ℕ). value o + 1 ≤ value (at old node)) (sym (label_here old new node c labelled)) (value_above (at old node) c better fits) in
    let le : (n : ℕ) → f n ≤ h n = λ n.
    elim (cases_eq n node) [
      | inl is ↦ subst (λ (m : ℕ). value (at new m) ≤ value (at old m)) (sym is) (omega arith)
      | inr ne ↦ subst (λ (o : Option ℕ). value o ≤ value (at old n)) (sym (label_there old new node c n labelled ne)) (omega arith)
    ] in
    subst (λ (ns : List ℕ). sum_by f ns + 1 ≤ potential old) (sym same) (sum_less f h (names old) node named.0 le here named.1 named.2)

pub settle_effort : (rows : List Row) (old new : List Label) (queue later : List (ℕ × ℕ)) (c node : ℕ) → Contains (names old) node → names new ≡ names old → IsSettled rows old new queue later c node → effort rows new later < effort rows old queue
settle_effort rows old new queue later c node named same s =
    let less = potential_less old new c node named same s.labelled s.better s.fits in
    let product = mul-le-mul_left (length rows + 1) less in
    let few = s.few in
    omega (arith, product)

pub skip_effort : (rows : List Row) (old new : List Label) (queue later : List (ℕ × ℕ)) → new ≡ old → length later + 1 ≡ length queue → effort rows new later < effort rows old queue
skip_effort rows old new queue later same long = let e = ap (λ (l : List Label). (length rows + 1) * potential l) same in omega (arith, e)

-- ---- a step is a node whose label changed for good

pub counted_start : (begin : List Label) (queue : List (ℕ × ℕ)) (n : ℕ) → IsCounted begin begin queue n n
unfolding IsDistinct
counted_start begin queue n = record {
  settled = [];
  many = omega arith;
  distinct = tt;
  once = λ m c o h. let l = h.1 in absurd (omega arith);
  changed = λ m h. let l = h.1 in absurd (omega arith);
  untouched = λ m h. refl;
}

pub counted_fewer : (begin old new : List Label) (queue later : List (ℕ × ℕ)) (before now : ℕ) → new ≡ old → ((o : ℕ × ℕ) → Contains later o → Contains queue o) → IsCounted begin old queue before now → IsCounted begin new later before now
counted_fewer begin old new queue later before now same fewer k =
    subst (λ (l : List Label). IsCounted begin l later before now) (sym same)
    (record { settled = k.settled; many = k.many; distinct = k.distinct; once = λ m c o h e there. k.once m c o h e (fewer o there); changed = k.changed; untouched = k.untouched })

not_in : (node : ℕ) (ns : List ℕ) → (Contains ns node → ⊥) → AllByRecursion (λ y. nat_eq node y ≡ false) ns
not_in node ns out = recursion_from_All (λ y. nat_eq node y ≡ false) ns (λ k d l. ne_eqb node (get_or ns k d) (λ is. out (k, l, get_or_default ns k node d l ∙ sym is)))

pub counted_more : (rows : List Row) (begin old new : List Label) (queue later : List (ℕ × ℕ)) (before now c node : ℕ) → IsCounted begin old queue before now → IsSettled rows old new queue later c node → IsCounted begin new later before (now + 1)
counted_more rows begin old new queue later before now c node k s =
    let out : Contains k.settled node → ⊥ = λ h.
    let was = k.changed node h in
    let low = k.once node was.0 (c, node) h was.1 s.popped in
    s.better (subst (λ (o : Option ℕ). IsWithin o c) (sym was.1) low) in
    let apart : (m : ℕ) → Contains k.settled m → m ≢ node = λ m h is. out (subst (λ (x : ℕ). Contains k.settled x) is h) in
    let many = k.many in
    record {
      settled = node ∷ k.settled;
      many = omega arith;
      distinct = IsDistinct-cons nat_eq node k.settled (not_in node k.settled out) k.distinct;
      once = λ m d o h e there.
          elim (contains_cases node m k.settled h) [
            | inl is ↦
                let d_is : d ≡ c = some_same c d (at new node) (label_here old new node c s.labelled) (subst (λ (x : ℕ). at new x ≡ Some d) (sym is) e) in
                let after = s.after o there in
                omega arith
            | inr in_old ↦
                let low = k.once m d (c, node) in_old (sym (label_there old new node c m s.labelled (apart m in_old)) ∙ e) s.popped in
                let after = s.after o there in
                omega arith
          ];
      changed = λ m h.
          elim (contains_cases node m k.settled h) [
            | inl is ↦
                let better : IsWithin (at begin node) c → ⊥ = λ w. s.better (subst (λ (o : Option ℕ). IsWithin o c) (sym (k.untouched node out)) w) in
                (c, subst (λ (x : ℕ). at new x ≡ Some c) is (label_here old new node c s.labelled), subst (λ (x : ℕ). IsWithin (at begin x) c → ⊥) is better)
            | inr in_old ↦
                let was = k.changed m in_old in
                (was.0, label_there old new node c m s.labelled (apart m in_old) ∙ was.1, was.2)
          ];
      untouched = λ m h.
          label_there old new node c m s.labelled (λ is. h (subst (λ (x : ℕ). Contains (node ∷ k.settled) x) (sym is) (contains_first node k.settled)))
          ∙ k.untouched m (λ there. h (contains_rest node m k.settled there));
    }
