-- The table of all next hops.

use Rattle.std.proofs.Common.{◌≡◌, ◌≢◌, ◌∙◌, ℕ, ◌+◌, ◌≤◌, ◌<◌, true, false, ◌==◌, ◌&&◌, List, [], ◌∷◌, ◌++◌, length, map, take, get_or, sym, ap, subst, arith, inl, inr}
use Rattle.std.specs.List.{All, Contains}
use Rattle.std.specs.List.Sorted.{IsStrictlyIncreasing, IsStrictlySortedBy, IsNonDecreasingBy}
use Rattle.std.specs.declared.cmp.Ordering.TheVariants.{Less}
use Rattle.std.proofs.lemmas.Map.Keys.{Less-from_sorted}
use Rattle.std.specs.Cmp.{IsEquivalence, IsTotalOrder}
use Rattle.std.specs.Ordering.{nat_cmp, ordering_then, eq_by_cmp, is_eq}
use Rattle.std.proofs.lemmas.Bool.Decides.{nat_tests}
use Rattle.spf_tree.specs.Pairs.{pair_cmp}
use Rattle.std.proofs.lemmas.Bool.{and_parts, cases_lt, eqb-true}
use Rattle.std.proofs.lemmas.Cmp.{nat_eq_equiv, on_equiv, and_equiv, nat_cmp_total, on_total, then_total}
use Rattle.std.proofs.lemmas.List.{get_or-map, get_or_append_left, get_or_default, get_or_push, length-append, length-map, take_more, take_all}
use Rattle.std.proofs.lemmas.List.Elements.{Contains-get_or, Contains-append_left, Contains-append_right, Contains-append_cases, Contains-push, Contains-push_cases}
use Rattle.spf_tree.specs.declared.row.Row.{Row}
use Rattle.spf_tree.specs.declared.label.Label.{Label}
use Rattle.spf_tree.specs.Walks.{AreLeast}
use Rattle.spf_tree.specs.Labels.{at}
use Rattle.spf_tree.specs.Nodes.{is_system}
use Rattle.spf_tree.specs.NextHops.{IsNextHop}
use Rattle.spf_tree.specs.Exploring.{IsTable, AreHopsOf, IsHopByLabels, LeadsOn, AreReached, IsTabled, AreTabled, beside}
use Rattle.spf_tree.proofs.HopLemmas.{found_is, is_found, next_by_labels, labels_by_next}

-- ---- a list beside a hop

into_beside : (hop node : ℕ) (nodes : List ℕ) → Contains nodes node → Contains (map (beside hop) nodes) (node, hop)
into_beside hop node nodes h =
    (h.0, simp length-map h.1, get_or-map (beside hop) nodes h.0 node (node, hop) h.1 ∙ ap (beside hop) h.2)

of_beside : (hop node h : ℕ) (nodes : List ℕ) → Contains (map (beside hop) nodes) (node, h) → (h ≡ hop) × Contains nodes node
of_beside hop node h nodes c =
    let in' : c.0 < length nodes = simp length-map at c.1 in
    let is : beside hop (get_or nodes c.0 node) ≡ (node, h) = sym (get_or-map (beside hop) nodes c.0 node (node, h) in') ∙ c.2 in
    (sym (ap (λ (p : ℕ × ℕ). p.1) is), (c.0, in', ap (λ (p : ℕ × ℕ). p.0) is))

pub tabled : (rows : List Row) (root : ℕ) (labels : List Label) (hop : ℕ) (old new : List (ℕ × ℕ)) (reached : List ℕ) → hop ≢ root → is_system hop ≡ true → AreReached rows root labels true hop reached → new ≡ old ++ map (beside hop) reached → IsTabled rows root labels hop old new
tabled rows root labels hop old new reached ne system all is =
    rw is (record {
      from = λ t h c.
          elim (Contains-append_cases old (map (beside hop) reached) (t, h) c) [
            | inl was ↦ inl was
            | inr now ↦ let o = of_beside hop t h reached now in inr (o.0, (ne, system, all.walk t o.1))
          ];
      kept = λ t h c. Contains-append_left old (map (beside hop) reached) (t, h) c;
      more = λ t on. Contains-append_right old (map (beside hop) reached) (t, hop) (into_beside hop t reached (all.every on.2.0 t on.2.1));
    })

pub untabled : (rows : List Row) (root : ℕ) (labels : List Label) (hop : ℕ) (old : List (ℕ × ℕ)) → ((t : ℕ) → LeadsOn rows root labels t hop → ⊥) → IsTabled rows root labels hop old old
untabled rows root labels hop old never = record { from = λ t h c. inl c; kept = λ t h c. c; more = λ t on. absurd (never t on) }

-- ---- the loop over hops

pub table_more : (rows : List Row) (root : ℕ) (labels : List Label) (plain : List ℕ) (table more : List (ℕ × ℕ)) (i d : ℕ) → i < length plain → AreTabled rows root labels (take i plain) table → IsTabled rows root labels (get_or plain i d) table more → AreTabled rows root labels (take (i + 1) plain) more
table_more rows root labels plain table more i d in' before t =
    let hop = get_or plain i d in
    rw (take_more plain i d in') (record {
      from = λ target h c.
          elim (t.from target h c) [
            | inl was ↦ let b = before.from target h was in (Contains-append_left (take i plain) (hop ∷ []) h b.0, b.1)
            | inr now ↦ (subst (λ (n : ℕ). Contains (take i plain ++ hop ∷ []) n) (sym now.0) (Contains-push (take i plain) hop), subst (λ (n : ℕ). LeadsOn rows root labels target n) (sym now.0) now.1)
          ];
      all = λ target h c on.
          elim (Contains-push_cases (take i plain) hop h c) [
            | inl was ↦ t.kept target h (before.all target h was on)
            | inr is ↦ subst (λ (n : ℕ). Contains more (target, n)) is (t.more target (subst (λ (n : ℕ). LeadsOn rows root labels target n) (sym is) on))
          ];
    })

pub table_done : (rows : List Row) (root : ℕ) (labels : List Label) (plain : List ℕ) (table : List (ℕ × ℕ)) (i : ℕ) → length plain ≤ i → AreTabled rows root labels (take i plain) table → AreTabled rows root labels plain table
table_done rows root labels plain table i past h = rw (take_all i plain past) at h

-- ---- the answer

pub table_is : (rows : List Row) (root : ℕ) (labels : List Label) (plain : List ℕ) (table sorted : List (ℕ × ℕ)) → AreLeast rows root (at labels) → AreReached rows root labels false root plain → AreTabled rows root labels plain table
    → ((p : ℕ × ℕ) → Contains table p → Contains sorted p) → ((p : ℕ × ℕ) → Contains sorted p → Contains table p)
    → (target hop : ℕ) → (Contains sorted (target, hop) → IsHopByLabels rows root labels target hop) × (IsHopByLabels rows root labels target hop → Contains sorted (target, hop))
table_is rows root labels plain table sorted least reached t into out target hop = (
  (λ h. let c = t.from target hop (out (target, hop) h) in found_is rows root labels target plain least reached hop c.0 c.1),
  (λ h. let f = is_found rows root labels target plain least reached hop h in into (target, hop) (t.all target hop f.0 f.1)),
)

-- ---- pairs

pub pair_equiv : IsEquivalence (λ (x y : ℕ × ℕ). x.0 == y.0 && x.1 == y.1)
pair_equiv = and_equiv (on_equiv (λ (p : ℕ × ℕ). p.0) nat_eq_equiv) (on_equiv (λ (p : ℕ × ℕ). p.1) nat_eq_equiv)

pair_eq : (a b c d : ℕ) → a ≡ c → b ≡ d → ◌≡◌ {A = ℕ × ℕ} (a, b) (c, d)
pair_eq a b c d p q = ap (λ (n : ℕ). let r : ℕ × ℕ = (n, b) in r) p ∙ ap (λ (n : ℕ). let r : ℕ × ℕ = (c, n) in r) q

pub pair_same : (x y : ℕ × ℕ) → (x.0 == y.0 && x.1 == y.1) ≡ true → x ≡ y
pair_same x y h =
    let p = and_parts (x.0 == y.0) (x.1 == y.1) h in
    pair_eq x.0 x.1 y.0 y.1 (eqb-true x.0 y.0 p.0) (eqb-true x.1 y.1 p.1)

pub pair_total : IsTotalOrder pair_cmp
pair_total = then_total (on_total (λ (p : ℕ × ℕ). p.0) nat_cmp_total) (on_total (λ (p : ℕ × ℕ). p.1) nat_cmp_total)

ties : (a b c d : ℕ) → (a == c && b == d) ≡ is_eq (ordering_then (nat_cmp a c) (nat_cmp b d))
ties a b c d = grind (arith, nat_tests)

pub pair_ties : (x y : ℕ × ℕ) → (x.0 == y.0 && x.1 == y.1) ≡ eq_by_cmp pair_cmp x y
pair_ties x y = ties x.0 x.1 y.0 y.1

pub next_table : (rows : List Row) (root : ℕ) (labels : List Label) (plain : List ℕ) (table sorted : List (ℕ × ℕ)) → AreLeast rows root (at labels) → AreReached rows root labels false root plain → AreTabled rows root labels plain table
    → ((p : ℕ × ℕ) → Contains table p → Contains sorted p) → ((p : ℕ × ℕ) → Contains sorted p → Contains table p)
    → (target hop : ℕ) → (Contains sorted (target, hop) → IsNextHop rows root target hop) × (IsNextHop rows root target hop → Contains sorted (target, hop))
next_table rows root labels plain table sorted least reached t into out target hop =
    let are = table_is rows root labels plain table sorted least reached t into out target hop in
    ((λ h. next_by_labels rows root labels least target hop (are.0 h)), (λ h. are.1 (labels_by_next rows root labels least target hop h)))

pub all_hops_systems : (rows : List Row) (root : ℕ) (labels : List Label) (plain : List ℕ) (table sorted : List (ℕ × ℕ)) → AreTabled rows root labels plain table → ((p : ℕ × ℕ) → Contains sorted p → Contains table p) → All (λ (pair : ℕ × ℕ). is_system pair.1 ≡ true) sorted
all_hops_systems rows root labels plain table sorted t out k d in' =
    let p = get_or sorted k d in
    (t.from p.0 p.1 (out p (Contains-get_or sorted k d in'))).1.1

-- ---- the hops beside one target

less_first : (a b c d : ℕ) → ordering_then (nat_cmp a c) (nat_cmp b d) ≡ Less → a ≤ c
less_first a b c d h = grind (arith, nat_tests)

less_second : (a b c d : ℕ) → ordering_then (nat_cmp a c) (nat_cmp b d) ≡ Less → a ≡ c → b < d
less_second a b c d h e = grind (arith, nat_tests)

pub targets_rise : (table : List (ℕ × ℕ)) → IsStrictlySortedBy pair_cmp table → IsNonDecreasingBy (λ (p : ℕ × ℕ). p.0) table
targets_rise table sorted i j d h l =
    elim (cases_lt i j) [
      | inl less ↦ let p = get_or table i d in let q = get_or table j d in less_first p.0 p.1 q.0 q.1 (Less-from_sorted pair_cmp table i j d sorted less l)
      | inr not_less ↦ let e : i ≡ j = omega arith in subst (λ (n : ℕ). (get_or table i d).0 ≤ (get_or table n d).0) e (omega arith)
    ]

pub hops_none : (table : List (ℕ × ℕ)) (target first : ℕ) → ((k : ℕ) (d : ℕ × ℕ) → k < first → (get_or table k d).0 < target) → AreHopsOf table target [] first
hops_none table target first below =
    record {
      from = λ hop h. let l = h.1 in absurd (omega arith);
      all = λ k d in' is. let less = below k d in' in absurd (omega arith);
      rising = λ k l. absurd (omega arith);
      below = λ hop k d h. let l = h.1 in absurd (omega arith);
    }

rising_push : (xs : List ℕ) (x : ℕ) → IsStrictlyIncreasing xs → ((y : ℕ) → Contains xs y → y < x) → IsStrictlyIncreasing (xs ++ x ∷ [])
rising_push xs x up below k l =
    let long = length-append xs (x ∷ []) in
    let left : get_or (xs ++ x ∷ []) k 0 ≡ get_or xs k 0 = get_or_append_left xs (x ∷ []) 0 k (omega arith) in
    elim (cases_lt (k + 1) (length xs)) [
      | inl less ↦
          let right : get_or (xs ++ x ∷ []) (k + 1) 0 ≡ get_or xs (k + 1) 0 = get_or_append_left xs (x ∷ []) 0 (k + 1) less in
          let step = up k less in
          omega arith
      | inr not_less ↦
          let right : get_or (xs ++ x ∷ []) (k + 1) 0 ≡ x = get_or_push xs x 0 (k + 1) (omega arith) in
          let less = below (get_or xs k 0) (Contains-get_or xs k 0 (omega arith)) in
          omega arith
    ]

pub hops_more : (table : List (ℕ × ℕ)) (target : ℕ) (hops : List ℕ) (m : ℕ) (e : ℕ × ℕ) → IsTable table → m < length table → (get_or table m e).0 ≡ target → AreHopsOf table target hops m → AreHopsOf table target (hops ++ (get_or table m e).1 ∷ []) (m + 1)
hops_more table target hops m e is in' here so_far =
    let hop = (get_or table m e).1 in
    let pair : get_or table m e ≡ (target, hop) = ap (λ (n : ℕ). (n, hop)) here in
    let there : Contains table (target, hop) = subst (λ (p : ℕ × ℕ). Contains table p) pair (Contains-get_or table m e in') in
    record {
      from = λ h c.
          elim (Contains-push_cases hops hop h c) [
            | inl was ↦ so_far.from h was
            | inr now ↦ subst (λ (n : ℕ). Contains table (target, n)) now there
          ];
      all = λ k d less at_target.
          elim (cases_lt k m) [
            | inl before ↦ Contains-append_left hops (hop ∷ []) (get_or table k d).1 (so_far.all k d before at_target)
            | inr not_before ↦
                let k_is : m ≡ k = omega arith in
                let same : get_or table m e ≡ get_or table k d = get_or_default table m e d in' ∙ ap (λ (j : ℕ). get_or table j d) k_is in
                subst (λ (p : ℕ × ℕ). Contains (hops ++ hop ∷ []) p.1) same (Contains-push hops hop)
          ];
      rising = rising_push hops hop so_far.rising (λ y c. so_far.below y m e c (omega arith) in' here);
      below = λ h k d c from_m l at_target.
          elim (Contains-push_cases hops hop h c) [
            | inl was ↦ so_far.below h k d was (omega arith) l at_target
            | inr now ↦
                let first = get_or table m d in
                let later = get_or table k d in
                let same : get_or table m e ≡ first = get_or_default table m e d in' in
                let one : first.0 ≡ later.0 = ap (λ (p : ℕ × ℕ). p.0) (sym same) ∙ here ∙ sym at_target in
                let less : first.1 < later.1 = less_second first.0 first.1 later.0 later.1 (Less-from_sorted pair_cmp table m k d is.rising (omega arith) l) one in
                let hop_is : hop ≡ first.1 = ap (λ (p : ℕ × ℕ). p.1) same in
                omega arith
          ];
    }

pub hops_done : (table : List (ℕ × ℕ)) (target : ℕ) (hops : List ℕ) (m : ℕ) → ((k : ℕ) (d : ℕ × ℕ) → m ≤ k → k < length table → (get_or table k d).0 ≢ target) → AreHopsOf table target hops m → (hop : ℕ) → (Contains hops hop → Contains table (target, hop)) × (Contains table (target, hop) → Contains hops hop)
hops_done table target hops m past so_far hop = (
  so_far.from hop,
  (λ h.
      let p : ℕ × ℕ = (target, hop) in
      let at_target : (get_or table h.0 p).0 ≡ target = ap (λ (q : ℕ × ℕ). q.0) h.2 in
      elim (cases_lt h.0 m) [
        | inl less ↦ subst (λ (q : ℕ × ℕ). Contains hops q.1) h.2 (so_far.all h.0 p less at_target)
        | inr not_less ↦ absurd (past h.0 p not_less h.1 at_target)
      ]),
)

pub past_first : (table : List (ℕ × ℕ)) (target m : ℕ) (e : ℕ × ℕ) → IsTable table → m < length table → target ≤ (get_or table m e).0 → (get_or table m e).0 ≢ target → (k : ℕ) (d : ℕ × ℕ) → m ≤ k → k < length table → (get_or table k d).0 ≢ target
past_first table target m e is in' high ne k d h l at_target =
    let up = targets_rise table is.rising m k d h l in
    let same = ap (λ (p : ℕ × ℕ). p.0) (get_or_default table m d e in') in
    ne (omega arith)

pub past_all : (table : List (ℕ × ℕ)) (target m : ℕ) → length table ≤ m → (k : ℕ) (d : ℕ × ℕ) → m ≤ k → k < length table → (get_or table k d).0 ≢ target
past_all table target m past k d h l = absurd (omega arith)

-- ---- facts of the first so many items

pub up-more : {X : Type 0} (xs : List X) (P : X → Type 0) (m : ℕ) (e : X) → m < length xs → ((k : ℕ) (d : X) → k < m → P (get_or xs k d)) → P (get_or xs m e) → (k : ℕ) (d : X) → k < m + 1 → P (get_or xs k d)
up-more xs P m e in' before here k d h =
    elim (cases_lt k m) [
      | inl less ↦ before k d less
      | inr not_less ↦
          let k_is : m ≡ k = omega arith in
          subst P (get_or_default xs m e d in' ∙ ap (λ (j : ℕ). get_or xs j d) k_is) here
    ]

pub up-all : {X : Type 0} (xs : List X) (P : X → Type 0) (m : ℕ) → length xs ≤ m → ((k : ℕ) (d : X) → k < m → P (get_or xs k d)) → (x : X) → Contains xs x → P x
up-all xs P m past h x there = let l = there.1 in subst P there.2 (h there.0 x (omega arith))
