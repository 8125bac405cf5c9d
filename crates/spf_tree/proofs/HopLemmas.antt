-- Next hops as systems from which tight rows lead on.

use Rattle.std.proofs.Common.{◌≡◌, ◌≢◌, ◌∙◌, ℕ, ◌+◌, ◌≤◌, ◌<◌, Bool, true, false, not, ◌==◌, ◌||◌, if◌then◌else◌, List, [], ◌∷◌, ◌++◌, length, take, get_or, Option, Some, None, refl, sym, ap, subst, arith, ◌⊎◌, inl, inr}
use Rattle.std.proofs.lemmas.Bool.{cases_eq}
use Rattle.std.specs.List.{All, Contains}
use Rattle.std.specs.Option.{is_some}
use Rattle.std.proofs.lemmas.Bool.{or_right, eq-eqb, ne_eqb}
use Rattle.std.proofs.lemmas.List.{take_more, take_all}
use Rattle.std.proofs.lemmas.List.Elements.{Contains-get_or, Contains-append_left, Contains-push, Contains-push_cases}
use Rattle.spf_tree.specs.declared.row.Row.{Row}
use Rattle.spf_tree.specs.declared.label.Label.{Label}
use Rattle.spf_tree.specs.Walks.{start, end, IsWalk, cost, IsWithin, AreLeast}
use Rattle.spf_tree.specs.Labels.{at}
use Rattle.spf_tree.specs.Nodes.{is_system}
use Rattle.spf_tree.specs.NextHops.{first_system, IsNextHop}
use Rattle.spf_tree.specs.Exploring.{IsHopByLabels, IsTight, goes_on, Leads, LeadsOn, AreReached, IsChosen, AreChosen}
use Rattle.spf_tree.proofs.WalkLemmas.{within_some}
use Rattle.spf_tree.proofs.SearchLemmas.{some_same}

-- ---- tight rows from the root are a least walk, and the other way round

pub tight_cost : (rows : List Row) (root : ℕ) (labels : List Label) (all : Bool) → at labels root ≡ Some 0 → (walk : List Row) (node : ℕ) → Leads rows root labels all root walk node → IsWalk rows root walk node × (at labels node ≡ Some (cost walk))
tight_cost rows root labels all at_root [] node h = (h, ap (at labels) h ∙ at_root)
tight_cost rows root labels all at_root (row ∷ walk) node h =
    let rest = tight_cost rows root labels all at_root walk (start row) h.5 in
    let tight = h.3 in
    let same : tight.0 ≡ cost walk = some_same (cost walk) tight.0 (at labels (start row)) rest.1 tight.1 in
    let sum : tight.0 + row.metric ≡ row.metric + cost walk = omega arith in
    ((h.0, h.1, h.2, rest.0), sym (ap (at labels) h.1) ∙ tight.2 ∙ ap (λ (c : ℕ). Some c) sum)

pub least_leads : (rows : List Row) (root : ℕ) (labels : List Label) → AreLeast rows root (at labels) → (walk : List Row) (node : ℕ) → IsWalk rows root walk node → at labels node ≡ Some (cost walk) → Leads rows root labels true root walk node
least_leads rows root labels least [] node is e = is
least_leads rows root labels least (row ∷ walk) node is e =
    let before = within_some (at labels (start row)) (cost walk) (least.least walk (start row) is.3) in
    let way = least.walk (start row) before.0 before.1 in
    let over : IsWithin (Some (row.metric + cost walk)) (row.metric + cost way.0) = rw e at (least.least (row ∷ way.0) node (is.0, is.1, is.2, way.1)) in
    let cheap = before.2 in
    let way_cost = way.2 in
    let same : before.0 ≡ cost walk = omega arith in
    let sum : row.metric + cost walk ≡ before.0 + row.metric = omega arith in
    let here : at labels (start row) ≡ Some (cost walk) = before.1 ∙ ap (λ (c : ℕ). Some c) same in
    (is.0, is.1, is.2, (before.0, before.1, ap (at labels) is.1 ∙ e ∙ ap (λ (c : ℕ). Some c) sum), refl, least_leads rows root labels least walk (start row) is.3 here)

-- ---- a walk cut at its first system

-- tight rows over the root and pseudonodes to a node, then a tight row to a system, then tight rows on
pub record IsSplit (rows : List Row) (root : ℕ) (labels : List Label) (target hop : ℕ) : Type 0 where
  pub before : List Row
  pub row : Row
  pub after : List Row
  pub plain : Leads rows root labels false root before (start row)
  pub there : Contains rows row
  pub goes : goes_on false root (start row) ≡ true
  pub ends : end row ≡ hop
  pub system : is_system hop ≡ true
  pub not_root : hop ≢ root
  pub tight : IsTight labels row
  pub leads : Leads rows root labels true hop after target

first_none : (o : Option ℕ) (b : Bool) (n : ℕ) → (if is_some o then o else (if b then Some n else None)) ≡ None → (o ≡ None) × (b ≡ false)
first_none None false n h = (refl, refl)
first_none None true n h = cc
first_none (Some m) b n h = cc

pub first_some : (o : Option ℕ) (b : Bool) (n hop : ℕ) → (if is_some o then o else (if b then Some n else None)) ≡ Some hop → (o ≡ Some hop) ⊎ ((o ≡ None) × (b ≡ true) × (n ≡ hop))
first_some None false n hop h = cc
first_some None true n hop h = inr (refl, refl, cc)
first_some (Some m) b n hop h = inl h

-- no system after the root on the walk: its rows start at the root and at pseudonodes
plain_all : (rows : List Row) (root : ℕ) (labels : List Label) (walk : List Row) (node : ℕ) → Leads rows root labels true root walk node → first_system walk ≡ None → Leads rows root labels false root walk node × (goes_on false root node ≡ true)
plain_all rows root labels [] node h none = (h, ap (λ (n : ℕ). n == root || not (is_system n)) h ∙ rw (eq-eqb root root refl) refl)
plain_all rows root labels (row ∷ walk) node h none =
    let p = first_none (first_system walk) (is_system (end row)) (end row) none in
    let rest = plain_all rows root labels walk (start row) h.5 p.0 in
    ((h.0, h.1, h.2, h.3, rest.1, rest.0), or_right (node == root) (not (is_system node)) (ap (λ (n : ℕ). not (is_system n)) (sym h.1) ∙ ap not p.1))

pub split : (rows : List Row) (root : ℕ) (labels : List Label) (hop : ℕ) (walk : List Row) (target : ℕ) → Leads rows root labels true root walk target → first_system walk ≡ Some hop → IsSplit rows root labels target hop
split rows root labels hop [] target h first = cc
split rows root labels hop (row ∷ walk) target h first =
    elim (first_some (first_system walk) (is_system (end row)) (end row) hop first) [
      | inl earlier ↦
          let s : IsSplit rows root labels (start row) hop = split rows root labels hop walk (start row) h.5 earlier in
          record { before = s.before; row = s.row; after = row ∷ s.after; plain = s.plain; there = s.there; goes = s.goes; ends = s.ends; system = s.system; not_root = s.not_root; tight = s.tight; leads = (h.0, h.1, h.2, h.3, refl, s.leads) }
      | inr here ↦
          let plain = plain_all rows root labels walk (start row) h.5 here.0 in
          record {
            before = walk;
            row = row;
            after = [];
            plain = plain.0;
            there = h.0;
            goes = plain.1;
            ends = here.2;
            system = ap is_system (sym here.2) ∙ here.1;
            not_root = λ is. h.2 (sym h.1 ∙ here.2 ∙ is);
            tight = h.3;
            leads = sym h.1 ∙ here.2;
          }
    ]

-- ---- and put together again

all_on : (rows : List Row) (root : ℕ) (labels : List Label) (from : ℕ) (walk : List Row) (node : ℕ) → Leads rows root labels false from walk node → Leads rows root labels true from walk node
all_on rows root labels from [] node h = h
all_on rows root labels from (row ∷ walk) node h = (h.0, h.1, h.2, h.3, refl, all_on rows root labels from walk (start row) h.5)

or_first_false : (x y : Bool) → (x || y) ≡ true → x ≡ false → y ≡ true
or_first_false true y h e = cc
or_first_false false y h e = h

not_true : (b : Bool) → not b ≡ true → b ≡ false
not_true true h = cc
not_true false h = refl

plain_first : (rows : List Row) (root : ℕ) (labels : List Label) (walk : List Row) (node : ℕ) → Leads rows root labels false root walk node → goes_on false root node ≡ true → first_system walk ≡ None
plain_first rows root labels [] node h goes = refl
plain_first rows root labels (row ∷ walk) node h goes =
    let before = plain_first rows root labels walk (start row) h.5 h.4 in
    let pseudo : is_system node ≡ false = not_true (is_system node) (or_first_false (node == root) (not (is_system node)) goes (ne_eqb node root h.2)) in
    let pseudo_end : is_system (end row) ≡ false = ap is_system h.1 ∙ pseudo in
    rw (before, pseudo_end) refl

join_leads : (rows : List Row) (root : ℕ) (labels : List Label) (hop : ℕ) (front : List Row) → Leads rows root labels true root front hop → (after : List Row) (target : ℕ) → Leads rows root labels true hop after target → Leads rows root labels true root (after ++ front) target
join_leads rows root labels hop front f [] target h = subst (λ (n : ℕ). Leads rows root labels true root front n) (sym h) f
join_leads rows root labels hop front f (row ∷ after) target h = (h.0, h.1, h.2, h.3, refl, join_leads rows root labels hop front f after (start row) h.5)

join_first : (hop : ℕ) (front after : List Row) → first_system front ≡ Some hop → first_system (after ++ front) ≡ Some hop
join_first hop front [] e = e
join_first hop front (row ∷ after) e = let rest = join_first hop front after e in rw rest refl

pub join : (rows : List Row) (root : ℕ) (labels : List Label) (target hop : ℕ) → at labels root ≡ Some 0 → IsSplit rows root labels target hop → IsHopByLabels rows root labels target hop
join rows root labels target hop at_root s =
    let front : Leads rows root labels true root (s.row ∷ s.before) hop = (s.there, s.ends, s.not_root, s.tight, refl, all_on rows root labels root s.before (start s.row) s.plain) in
    let leads = join_leads rows root labels hop (s.row ∷ s.before) front s.after target s.leads in
    let none = plain_first rows root labels s.before (start s.row) s.plain s.goes in
    let system : is_system (end s.row) ≡ true = ap is_system s.ends ∙ s.system in
    let first : first_system (s.row ∷ s.before) ≡ Some hop = rw (none, system) (ap (λ (n : ℕ). Some n) s.ends) in
    let is = tight_cost rows root labels true at_root (s.after ++ s.row ∷ s.before) target leads in
    (s.after ++ s.row ∷ s.before, is.0, is.1, join_first hop (s.row ∷ s.before) s.after first)

pub part : (rows : List Row) (root : ℕ) (labels : List Label) (target hop : ℕ) → AreLeast rows root (at labels) → IsHopByLabels rows root labels target hop → IsSplit rows root labels target hop
part rows root labels target hop least h = split rows root labels hop h.0 target (least_leads rows root labels least h.0 target h.1 h.2) h.3

-- the root's own label
pub root_zero : (rows : List Row) (root : ℕ) (labels : List Label) → AreLeast rows root (at labels) → at labels root ≡ Some 0
root_zero rows root labels least =
    let w = within_some (at labels root) 0 (least.least [] root refl) in
    let le = w.2 in
    let is : w.0 ≡ 0 = omega arith in
    w.1 ∙ ap (λ (c : ℕ). Some c) is

-- ---- the systems that were found

open_walk : (rows : List Row) (root : ℕ) (labels : List Label) (target hop : ℕ) (walk : List Row) → Leads rows root labels false root walk hop → LeadsOn rows root labels target hop → IsSplit rows root labels target hop
open_walk rows root labels target hop [] h on = absurd (on.0 h)
open_walk rows root labels target hop (row ∷ walk) h on =
    record { before = walk; row = row; after = on.2.0; plain = h.5; there = h.0; goes = h.4; ends = h.1; system = on.1; not_root = h.2; tight = h.3; leads = on.2.1 }

pub found_is : (rows : List Row) (root : ℕ) (labels : List Label) (target : ℕ) (plain : List ℕ) → AreLeast rows root (at labels) → AreReached rows root labels false root plain → (hop : ℕ) → Contains plain hop → LeadsOn rows root labels target hop → IsHopByLabels rows root labels target hop
found_is rows root labels target plain least reached hop h on =
    let way = reached.walk hop h in
    join rows root labels target hop (root_zero rows root labels least) (open_walk rows root labels target hop way.0 way.1 on)

pub is_found : (rows : List Row) (root : ℕ) (labels : List Label) (target : ℕ) (plain : List ℕ) → AreLeast rows root (at labels) → AreReached rows root labels false root plain → (hop : ℕ) → IsHopByLabels rows root labels target hop → Contains plain hop × LeadsOn rows root labels target hop
is_found rows root labels target plain least reached hop h =
    let s = part rows root labels target hop least h in
    (reached.every (s.row ∷ s.before) hop (s.there, s.ends, s.not_root, s.tight, s.goes, s.plain), (s.not_root, s.system, (s.after, s.leads)))

pub choose_more : (rows : List Row) (root : ℕ) (labels : List Label) (target : ℕ) (plain hops more : List ℕ) (i d : ℕ) → i < length plain → AreChosen rows root labels target (take i plain) hops → IsChosen rows root labels target (get_or plain i d) hops more → AreChosen rows root labels target (take (i + 1) plain) more
choose_more rows root labels target plain hops more i d in' before chosen =
    let hop = get_or plain i d in
    let front : take (i + 1) plain ≡ take i plain ++ hop ∷ [] = take_more plain i d in' in
    rw front
    (elim chosen [
      | inl new ↦ rw new.1 (record {
        from = λ h c.
            elim (Contains-push_cases hops hop h c) [
              | inl old ↦ let b = before.from h old in (Contains-append_left (take i plain) (hop ∷ []) h b.0, b.1)
              | inr is ↦ (subst (λ (n : ℕ). Contains (take i plain ++ hop ∷ []) n) is (Contains-push (take i plain) hop), subst (λ (n : ℕ). LeadsOn rows root labels target n) is new.0)
            ];
        all = λ h c on.
            elim (Contains-push_cases (take i plain) hop h c) [
              | inl old ↦ Contains-append_left hops (hop ∷ []) h (before.all h old on)
              | inr is ↦ subst (λ (n : ℕ). Contains (hops ++ hop ∷ []) n) is (Contains-push hops hop)
            ];
      })
      | inr same ↦ rw same.1 (record {
        from = λ h c. let b = before.from h c in (Contains-append_left (take i plain) (hop ∷ []) h b.0, b.1);
        all = λ h c on.
            elim (Contains-push_cases (take i plain) hop h c) [
              | inl old ↦ before.all h old on
              | inr is ↦ absurd (same.0 (subst (λ (n : ℕ). LeadsOn rows root labels target n) (sym is) on))
            ];
      })
    ])

pub choose_all : (rows : List Row) (root : ℕ) (labels : List Label) (target : ℕ) (plain hops : List ℕ) (i : ℕ) → length plain ≤ i → AreChosen rows root labels target (take i plain) hops → AreChosen rows root labels target plain hops
choose_all rows root labels target plain hops i past h = rw (take_all i plain past) at h

-- ---- the answer

pub hops_are : (rows : List Row) (root : ℕ) (labels : List Label) (target : ℕ) (plain hops sorted : List ℕ) → AreLeast rows root (at labels) → AreReached rows root labels false root plain → AreChosen rows root labels target plain hops
    → ((n : ℕ) → Contains hops n → Contains sorted n) → ((n : ℕ) → Contains sorted n → Contains hops n)
    → (hop : ℕ) → (Contains sorted hop → IsHopByLabels rows root labels target hop) × (IsHopByLabels rows root labels target hop → Contains sorted hop)
hops_are rows root labels target plain hops sorted least reached chosen into out hop = (
  (λ h. let c = chosen.from hop (out hop h) in found_is rows root labels target plain least reached hop c.0 c.1),
  (λ h. let f = is_found rows root labels target plain least reached hop h in into hop (chosen.all hop f.0 f.1)),
)

-- ---- where there is no next hop

first_cases : (o : Option ℕ) (n : ℕ) (b : Bool) → b ≡ true → (h : ℕ) × ((if is_some o then o else (if b then Some n else None)) ≡ Some h)
first_cases None n true e = (n, refl)
first_cases None n false e = cc
first_cases (Some m) n b e = (m, refl)

first_there : (rows : List Row) (root : ℕ) (walk : List Row) (target : ℕ) → IsWalk rows root walk target → target ≢ root → is_system target ≡ true → (h : ℕ) × (first_system walk ≡ Some h)
first_there rows root [] target is ne system = absurd (ne is)
first_there rows root (row ∷ walk) target is ne system = first_cases (first_system walk) (end row) (is_system (end row)) (ap is_system is.1 ∙ system)

some_or_none : (o : Option ℕ) → (o ≡ None) ⊎ ((c : ℕ) × (o ≡ Some c))
some_or_none None = inl refl
some_or_none (Some c) = inr (c, refl)

empty_list : (xs : List ℕ) → ((x : ℕ) → Contains xs x → ⊥) → xs ≡ []
empty_list [] none = refl
empty_list (x ∷ xs) none = absurd (none x (0, omega arith, refl))

pub no_hop_root : (rows : List Row) (root : ℕ) (labels : List Label) (target hop : ℕ) → (target ≡ root) ⊎ (at labels target ≡ None) → IsHopByLabels rows root labels target hop → ⊥
no_hop_root rows root labels target hop (inl is) ([], walk, e, first) = cc
no_hop_root rows root labels target hop (inl is) (row ∷ w, walk, e, first) = walk.2 is
no_hop_root rows root labels target hop (inr none) (w, walk, e, first) = cc

pub empty_is : (rows : List Row) (root : ℕ) (labels : List Label) (target : ℕ) (hops : List ℕ) → AreLeast rows root (at labels) → ((hop : ℕ) → (Contains hops hop → IsHopByLabels rows root labels target hop) × (IsHopByLabels rows root labels target hop → Contains hops hop)) → is_system target ≡ true
    → (hops ≡ [] → (target ≡ root) ⊎ (at labels target ≡ None)) × ((target ≡ root) ⊎ (at labels target ≡ None) → hops ≡ [])
empty_is rows root labels target hops least are system = (
  (λ e.
      elim (some_or_none (at labels target)) [
        | inl none ↦ inr none
        | inr some ↦
            elim (cases_eq target root) [
              | inl is ↦ inl is
              | inr ne ↦
                  let w = least.walk target some.0 some.1 in
                  let f = first_there rows root w.0 target w.1 ne system in
                  let there = (are f.0).1 (w.0, w.1, some.1 ∙ ap (λ (c : ℕ). Some c) (sym w.2), f.1) in
                  let in' = (subst (λ (hs : List ℕ). Contains hs f.0) e there).1 in
                  absurd (omega arith)
            ]
      ]),
  (λ h. empty_list hops (λ hop there. no_hop_root rows root labels target hop h ((are hop).0 there))),
)

-- ---- the same by least walks

pub next_by_labels : (rows : List Row) (root : ℕ) (labels : List Label) → AreLeast rows root (at labels) → (target hop : ℕ) → IsHopByLabels rows root labels target hop → IsNextHop rows root target hop
next_by_labels rows root labels least target hop h =
    let cheap : (other : List Row) → IsWalk rows root other target → cost h.0 ≤ cost other =
    λ other is. (let w : IsWithin (Some (cost h.0)) (cost other) = rw h.2 at (least.least other target is) in w) in
    (h.0, record { is = h.1; least = cheap }, h.3)

pub labels_by_next : (rows : List Row) (root : ℕ) (labels : List Label) → AreLeast rows root (at labels) → (target hop : ℕ) → IsNextHop rows root target hop → IsHopByLabels rows root labels target hop
labels_by_next rows root labels least target hop h =
    let s = h.1 in
    let there = within_some (at labels target) (cost h.0) (least.least h.0 target s.is) in
    let w = least.walk target there.0 there.1 in
    let back = s.least w.0 w.1 in
    let le = there.2 in
    let w_cost = w.2 in
    let same : there.0 ≡ cost h.0 = omega arith in
    (h.0, s.is, there.1 ∙ ap (λ (c : ℕ). Some c) same, h.2)

pub next_are : (rows : List Row) (root : ℕ) (labels : List Label) (target : ℕ) (plain hops sorted : List ℕ) → AreLeast rows root (at labels) → AreReached rows root labels false root plain → AreChosen rows root labels target plain hops
    → ((n : ℕ) → Contains hops n → Contains sorted n) → ((n : ℕ) → Contains sorted n → Contains hops n)
    → (hop : ℕ) → (Contains sorted hop → IsNextHop rows root target hop) × (IsNextHop rows root target hop → Contains sorted hop)
next_are rows root labels target plain hops sorted least reached chosen into out hop =
    let are = hops_are rows root labels target plain hops sorted least reached chosen into out hop in
    ((λ h. next_by_labels rows root labels least target hop (are.0 h)), (λ h. are.1 (labels_by_next rows root labels least target hop h)))

pub all_systems : (rows : List Row) (root : ℕ) (labels : List Label) (target : ℕ) (plain hops sorted : List ℕ) → AreChosen rows root labels target plain hops → ((n : ℕ) → Contains sorted n → Contains hops n) → All (λ hop. is_system hop ≡ true) sorted
all_systems rows root labels target plain hops sorted chosen out k d in' =
    let c = chosen.from (get_or sorted k d) (out (get_or sorted k d) (Contains-get_or sorted k d in')) in
    c.1.1
