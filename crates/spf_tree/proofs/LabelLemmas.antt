-- Labels in order: how they are found and set.

use Rattle.std.proofs.Common.{◌≡◌, ◌≢◌, ◌∙◌, ℕ, zero, suc, ◌+◌, ◌≤◌, ◌<◌, Bool, true, false, ◌==◌, if◌then◌else◌, List, [], ◌∷◌, length, map, get_or, set, Option, Some, None, refl, sym, ap, subst, arith, inl, inr}
use Rattle.std.specs.List.{Contains}
use Rattle.std.specs.Option.{is_some}
use Rattle.std.proofs.lemmas.Bool.{cases_eq, cases_lt, eq-eqb, ne_eqb}
use Rattle.std.proofs.Math.ListN.{get_or-map as get_or-map_any}
use Rattle.std.proofs.lemmas.List.{get_or_default, get_or-map, length-map}
use Rattle.spf_tree.specs.declared.label.Label.{Label}
use Rattle.spf_tree.specs.declared.row.Row.{Row}
use Rattle.spf_tree.specs.Walks.{end}
use Rattle.spf_tree.specs.Labels.{at}
use Rattle.spf_tree.specs.Labels.{IsPlace, IsRising, carry, names, unknown}
use Rattle.std.specs.List.Sorted.{IsStrictlyIncreasing}
use Rattle.std.proofs.lemmas.List.Kept.{AllPairs-from_increasing}

-- all before this place are below the node
abbrev pub AllBelow : List Label → ℕ → ℕ → Type 0
AllBelow labels i n = (k : ℕ) (d : Label) → k < i → (get_or labels k d).node < n

-- all from this place on aren't
abbrev pub AllAbove : List Label → ℕ → ℕ → Type 0
AllAbove labels i n = (k : ℕ) (d : Label) → i ≤ k → k < length labels → n ≤ (get_or labels k d).node

-- ---- a step of the search

pub left_half : (labels : List Label) (n m : ℕ) (e : Label) → IsRising labels → m < length labels → (get_or labels m e).node < n → AllBelow labels (m + 1) n
left_half labels n m e rising in' low k d h =
    elim (cases_lt k m) [
      | inl less ↦
          let up = rising.below k m d less in' in
          let same = ap (λ (l : Label). l.node) (get_or_default labels m d e in') in
          omega arith
      | inr not_less ↦
          let k_is : k ≡ m = omega arith in
          subst (λ (i : ℕ). (get_or labels i d).node < n) (sym k_is) (let same = ap (λ (l : Label). l.node) (get_or_default labels m d e in') in omega arith)
    ]

pub right_half : (labels : List Label) (n m : ℕ) (e : Label) → IsRising labels → m < length labels → n ≤ (get_or labels m e).node → AllAbove labels m n
right_half labels n m e rising in' high k d h l =
    elim (cases_lt m k) [
      | inl less ↦
          let up = rising.below m k d less l in
          let same = ap (λ (l : Label). l.node) (get_or_default labels m d e in') in
          omega arith
      | inr not_less ↦
          let k_is : k ≡ m = omega arith in
          subst (λ (i : ℕ). n ≤ (get_or labels i d).node) (sym k_is) (let same = ap (λ (l : Label). l.node) (get_or_default labels m d e in') in omega arith)
    ]

-- ---- the label that was found

pub at_place : (labels : List Label) (i n : ℕ) (d : Label) → i < length labels → AllBelow labels i n → (get_or labels i d).node ≡ n → at labels n ≡ (get_or labels i d).cost
at_place [] i n d in' below is = absurd (omega arith)
at_place (l ∷ labels) zero n d in' below is = rw (eq-eqb l.node n is) refl
at_place (l ∷ labels) (suc i) n d in' below is =
    let first : l.node < n = below 0 d (omega arith) in
    rw (ne_eqb l.node n (omega arith)) (at_place labels i n d (omega arith) (λ k e h. below (suc k) e (omega arith)) is)

pub at_none : (labels : List Label) (n : ℕ) → ((k : ℕ) (d : Label) → k < length labels → (get_or labels k d).node ≢ n) → at labels n ≡ None
at_none [] n none = refl
at_none (l ∷ labels) n none =
    let first : l.node ≢ n = none 0 l (omega arith) in
    rw (ne_eqb l.node n first) (at_none labels n (λ k d h. none (suc k) d (omega arith)))

pub at_set : (labels : List Label) (i n : ℕ) (v : Option ℕ) (d : Label) → i < length labels → AllBelow labels i n → (get_or labels i d).node ≡ n → (q : ℕ) → at (set labels i (record { node = n; cost = v })) q ≡ (if q == n then v else at labels q)
at_set [] i n v d in' below is q = absurd (omega arith)
at_set (l ∷ labels) zero n v d in' below is q =
    elim (cases_eq q n) [
      | inl e ↦ rw (eq-eqb n q (sym e), eq-eqb q n e) refl
      | inr ne ↦ rw (ne_eqb n q (λ h. ne (sym h)), ne_eqb q n ne, ne_eqb l.node q (λ h. ne (sym h ∙ is))) refl
    ]
at_set (l ∷ labels) (suc i) n v d in' below is q =
    let first : l.node < n = below 0 d (omega arith) in
    let rest = at_set labels i n v d (omega arith) (λ k e h. below (suc k) e (omega arith)) is q in
    elim (cases_eq l.node q) [
      | inl e ↦ rw (eq-eqb l.node q e, ne_eqb q n (λ h. absurd (omega arith))) refl
      | inr ne ↦ rw (ne_eqb l.node q ne) rest
    ]

pub names_set : (labels : List Label) (i n : ℕ) (v : Option ℕ) (d : Label) → (get_or labels i d).node ≡ n → i < length labels → names (set labels i (record { node = n; cost = v })) ≡ names labels
names_set [] i n v d is in' = refl
names_set (l ∷ labels) zero n v d is in' = ap (λ (m : ℕ). m ∷ names labels) (sym is)
names_set (l ∷ labels) (suc i) n v d is in' = ap (λ (ms : List ℕ). l.node ∷ ms) (names_set labels i n v d is (omega arith))

-- ---- a node that has a label is found

pub found : (labels : List Label) (i n : ℕ) → Contains (names labels) n → AllBelow labels i n → AllAbove labels i n → i ≤ length labels → IsRising labels → (d : Label) → (i < length labels) × ((get_or labels i d).node ≡ n)
found labels i n h below above within rising d =
    let k = h.0 in
    let in' : k < length labels = simp length-map at h.1 in
    let is : (get_or labels k d).node ≡ n = sym (get_or-map (λ (l : Label). l.node) labels k d n in') ∙ h.2 in
    elim (cases_lt k i) [
      | inl less ↦ let b = below k d less in absurd (omega arith)
      | inr not_less ↦
          elim (cases_lt i k) [
            | inl more ↦ let up = rising.below i k d more in' in let a = above i d (omega arith) (omega arith) in absurd (omega arith)
            | inr not_more ↦ let e : k ≡ i = omega arith in (omega arith, subst (λ (j : ℕ). (get_or labels j d).node ≡ n) e is)
          ]
    ]

node_named : (labels : List Label) (k : ℕ) (d : Label) → get_or (names labels) k d.node ≡ (get_or labels k d).node
node_named labels k d = get_or-map_any (λ (l : Label). l.node) labels k d

pub rising_names : (old new : List Label) → names new ≡ names old → IsRising old → IsRising new
rising_names old new e rising =
    let same : (k : ℕ) (d : Label) → (get_or new k d).node ≡ (get_or old k d).node = λ k d. sym (node_named new k d) ∙ ap (λ (ns : List ℕ). get_or ns k d.node) e ∙ node_named old k d in
    let long : length new ≡ length old = sym (length-map new (λ (l : Label). l.node)) ∙ ap length e ∙ length-map old (λ (l : Label). l.node) in
    record {
      below = λ i j d h l.
          let up = rising.below i j d h (omega arith) in
          let at_i = same i d in
          let at_j = same j d in
          omega arith;
    }

-- ---- `set` and `get` as the code has them: the slice that is searched, the fields and the model are one list

pub place_names : (old new : List Label) (place n : ℕ) → names new ≡ names old → IsPlace old place n → IsPlace new place n
place_names old new place n e is =
    let same : (k : ℕ) (d : Label) → (get_or new k d).node ≡ (get_or old k d).node = λ k d. sym (node_named new k d) ∙ ap (λ (ns : List ℕ). get_or ns k d.node) e ∙ node_named old k d in
    let long : length new ≡ length old = sym (length-map new (λ (l : Label). l.node)) ∙ ap length e ∙ length-map old (λ (l : Label). l.node) in
    record {
      below = λ k d h. let low = is.below k d h in let at_k = same k d in omega arith;
      above = λ k d h l. let high = is.above k d h (omega arith) in let at_k = same k d in omega arith;
    }

pub record IsSet (xs old : List Label) (i n : ℕ) (v : Option ℕ) : Type 0 where
  pub in' : i < length xs
  pub rising : IsRising (set xs i (record { node = n; cost = v }))
  pub names : names (set xs i (record { node = n; cost = v })) ≡ names old
  pub costs : (q : ℕ) → at (set xs i (record { node = n; cost = v })) q ≡ (if q == n then v else at old q)

one_list : (xs : List Label) (i n : ℕ) (v : Option ℕ) → Contains (names xs) n → i ≤ length xs → AllBelow xs i n → AllAbove xs i n → IsRising xs → IsSet xs xs i n v
one_list xs i n v named within below above rising =
    let d : Label = record { node = 0; cost = None } in
    let f = found xs i n named below above within rising d in
    record {
      in' = f.0;
      rising = rising_names xs (set xs i (record { node = n; cost = v })) (names_set xs i n v d f.1 f.0) rising;
      names = names_set xs i n v d f.1 f.0;
      costs = at_set xs i n v d f.0 below f.1;
    }

pub is_set : (slice xs old : List Label) (i n : ℕ) (v : Option ℕ) → slice ≡ xs → xs ≡ old → Contains (names old) n → i ≤ length slice → AllBelow slice i n → AllAbove slice i n → IsRising xs → IsSet xs old i n v
is_set slice xs old i n v e f named within below above rising =
    subst (λ (o : List Label). IsSet xs o i n v) f
    (one_list xs i n v (subst (λ (o : List Label). Contains (names o) n) (sym f) named) (subst (λ (s : List Label). i ≤ length s) e within)
    (subst (λ (s : List Label). AllBelow s i n) e below) (subst (λ (s : List Label). AllAbove s i n) e above) rising)

pub none_at : (labels : List Label) (i n : ℕ) (d : Label) → AllBelow labels i n → AllAbove labels i n → IsRising labels → (i < length labels → (get_or labels i d).node ≢ n) → at labels n ≡ None
none_at labels i n d below above rising ne =
    at_none labels n (λ k e in' is.
    elim (cases_lt k i) [
      | inl less ↦ let b = below k e less in absurd (omega arith)
      | inr not_less ↦
          elim (cases_lt i k) [
            | inl more ↦ let up = rising.below i k d more in' in let same = ap (λ (l : Label). l.node) (get_or_default labels k d e in') in let a = above i d (omega arith) (omega arith) in absurd (omega arith)
            | inr not_more ↦
                let j : k ≡ i = omega arith in
                let here : (get_or labels k d).node ≡ n = ap (λ (l : Label). l.node) (get_or_default labels k d e in') ∙ is in
                ne (omega arith) (subst (λ (m : ℕ). (get_or labels m d).node ≡ n) j here)
          ]
    ])

-- ---- labels without costs

pub names_unknown : (nodes : List ℕ) → names (map unknown nodes) ≡ nodes
names_unknown [] = refl
names_unknown (n ∷ nodes) = ap (λ (ns : List ℕ). n ∷ ns) (names_unknown nodes)

pub at_unknown : (nodes : List ℕ) (q : ℕ) → at (map unknown nodes) q ≡ None
at_unknown [] q = refl
at_unknown (n ∷ nodes) q =
    elim (cases_eq n q) [
      | inl is ↦ rw (eq-eqb n q is) refl
      | inr ne ↦ rw (ne_eqb n q ne) (at_unknown nodes q)
    ]

pub rising_unknown : (nodes : List ℕ) → IsStrictlyIncreasing nodes → IsRising (map unknown nodes)
rising_unknown nodes up =
    record {
      below = λ i j d h l.
          let long : j < length nodes = simp length-map at l in
          let at_i : (get_or (map unknown nodes) i d).node ≡ get_or nodes i 0 = ap (λ (l : Label). l.node) (get_or-map unknown nodes i 0 d (omega arith)) in
          let at_j : (get_or (map unknown nodes) j d).node ≡ get_or nodes j 0 = ap (λ (l : Label). l.node) (get_or-map unknown nodes j 0 d long) in
          let pair = AllPairs-from_increasing nodes up i j 0 h long in
          omega arith;
    }

pub some_unknown : (nodes : List ℕ) (labels : List Label) (n : ℕ) → labels ≡ map unknown nodes → Contains nodes n → Contains (names labels) n
some_unknown nodes labels n is h = subst (λ (ns : List ℕ). Contains ns n) (sym (ap names is ∙ names_unknown nodes)) h

-- ---- the ends of rows

pub ends_among : (rows : List Row) (nodes : List ℕ) (root : ℕ) (row : Row) → nodes ≡ root ∷ map end rows → Contains rows row → Contains nodes (end row)
ends_among rows nodes root row is h =
    subst (λ (ns : List ℕ). Contains ns (end row)) (sym is) (suc h.0, (let l = h.1 in simp length-map (omega arith)), (get_or-map end rows h.0 row (end row) h.1 ∙ ap end h.2))

pub ends_in : (rows : List Row) (row : Row) → Contains rows row → Contains (map end rows) (end row)
ends_in rows row h = (h.0, (let l = h.1 in simp length-map (omega arith)), (get_or-map end rows h.0 row (end row) h.1 ∙ ap end h.2))

pub root_among : (rows : List Row) (nodes : List ℕ) (root : ℕ) → nodes ≡ root ∷ map end rows → Contains nodes root
root_among rows nodes root is = subst (λ (ns : List ℕ). Contains ns root) (sym is) (0, omega arith, refl)

-- ---- a node that has a cost is named

pub named_at : (labels : List Label) (n c : ℕ) → at labels n ≡ Some c → Contains (names labels) n
named_at [] n c e = cc
named_at (l ∷ labels) n c e =
    elim (cases_eq l.node n) [
      | inl is ↦ (0, omega arith, is)
      | inr ne ↦
          let rest = named_at labels n c (rw (ne_eqb l.node n ne) at e) in
          let l = rest.1 in
          (suc rest.0, omega arith, rest.2)
    ]

-- ---- labels carried over

pub names_carry : (old marks : List Label) (nodes : List ℕ) → names (map (carry old marks) nodes) ≡ nodes
names_carry old marks [] = refl
names_carry old marks (n ∷ nodes) = ap (λ (ns : List ℕ). n ∷ ns) (names_carry old marks nodes)

carry_cases : (b : Bool) (o : Option ℕ) (c : ℕ) → (if b then None else o) ≡ Some c → (o ≡ Some c) × (b ≡ false)
carry_cases true o c e = cc
carry_cases false o c e = (e, refl)

pub carry_from : (old marks : List Label) (nodes : List ℕ) (n c : ℕ) → at (map (carry old marks) nodes) n ≡ Some c → (at old n ≡ Some c) × (is_some (at marks n) ≡ false)
carry_from old marks [] n c e = cc
carry_from old marks (m ∷ nodes) n c e =
    elim (cases_eq m n) [
      | inl is ↦ subst (λ (k : ℕ). (at old k ≡ Some c) × (is_some (at marks k) ≡ false)) is (carry_cases (is_some (at marks m)) (at old m) c (rw (eq-eqb m n is) at e))
      | inr ne ↦ carry_from old marks nodes n c (rw (ne_eqb m n ne) at e)
    ]

carry_at : (old marks : List Label) (nodes : List ℕ) (n k : ℕ) → k < length nodes → get_or nodes k n ≡ n → is_some (at marks n) ≡ false → at (map (carry old marks) nodes) n ≡ at old n
carry_at old marks [] n k l e free = absurd (omega arith)
carry_at old marks (m ∷ nodes) n zero l e free = let f : is_some (at marks m) ≡ false = ap (λ (x : ℕ). is_some (at marks x)) e ∙ free in rw (eq-eqb m n e, f) (ap (at old) e)
carry_at old marks (m ∷ nodes) n (suc k) l e free =
    elim (cases_eq m n) [
      | inl is ↦ let f : is_some (at marks m) ≡ false = ap (λ (x : ℕ). is_some (at marks x)) is ∙ free in rw (eq-eqb m n is, f) (ap (at old) is)
      | inr ne ↦ rw (ne_eqb m n ne) (carry_at old marks nodes n k (omega arith) e free)
    ]

pub carry_into : (old marks : List Label) (nodes : List ℕ) (n : ℕ) → Contains nodes n → is_some (at marks n) ≡ false → at (map (carry old marks) nodes) n ≡ at old n
carry_into old marks nodes n h free = carry_at old marks nodes n h.0 h.1 h.2 free

pub rising_by : (nodes : List ℕ) (labels : List Label) → IsStrictlyIncreasing nodes → names labels ≡ nodes → IsRising labels
rising_by nodes labels up e = rising_names (map unknown nodes) labels (e ∙ sym (names_unknown nodes)) (rising_unknown nodes up)

-- ---- a label by its place

pub named_place : (labels : List Label) (i : ℕ) (d : Label) → i < length (names labels) → (i < length labels) × ((get_or labels i d).node ≡ get_or (names labels) i 0)
named_place labels i d h =
    let in' : i < length labels = simp length-map at h in
    (in', sym (get_or-map (λ (l : Label). l.node) labels i d 0 in'))

pub one_label : (labels : List Label) → IsRising labels → (i j : ℕ) → i < length (names labels) → j < length (names labels) → get_or (names labels) i 0 ≡ get_or (names labels) j 0 → i ≡ j
one_label labels rising i j in_i in_j e =
    let d : Label = record { node = 0; cost = None } in
    let at_i = named_place labels i d in_i in
    let at_j = named_place labels j d in_j in
    let node_i = at_i.1 in
    let node_j = at_j.1 in
    elim (cases_lt i j) [
      | inl less ↦ let up = rising.below i j d less at_j.0 in absurd (omega arith)
      | inr not_less ↦
          elim (cases_lt j i) [
            | inl more ↦ let up = rising.below j i d more at_i.0 in absurd (omega arith)
            | inr not_more ↦ omega arith
          ]
    ]

below_place : (labels : List Label) (i : ℕ) (d : Label) → IsRising labels → i < length labels → AllBelow labels i (get_or labels i d).node
below_place labels i d rising in' k e h =
    let up = rising.below k i e h in' in
    let same = ap (λ (l : Label). l.node) (get_or_default labels i d e in') in
    omega arith

pub at_near : (labels : List Label) (i n : ℕ) (d : Label) → IsRising labels → i < length labels → (get_or labels i d).node ≡ n → at labels n ≡ (get_or labels i d).cost
at_near labels i n d rising in' is = at_place labels i n d in' (subst (λ (m : ℕ). AllBelow labels i m) is (below_place labels i d rising in')) is

pub at_named : (labels : List Label) (i : ℕ) (d : Label) → IsRising labels → i < length (names labels) → at labels (get_or (names labels) i 0) ≡ (get_or labels i d).cost
at_named labels i d rising h =
    let p = named_place labels i d h in
    at_place labels i (get_or (names labels) i 0) d p.0 (subst (λ (n : ℕ). AllBelow labels i n) p.1 (below_place labels i d rising p.0)) p.1

pub set_named : (xs old : List Label) (i : ℕ) (v : Option ℕ) (l : Label) → xs ≡ old → IsRising xs → i < length (names old) → l ≡ get_or xs i l → IsSet xs old i l.node v
set_named xs old i v l e rising h is =
    let p = named_place xs i l (subst (λ (ls : List Label). i < length (names ls)) (sym e) h) in
    let node : (get_or xs i l).node ≡ l.node = ap (λ (m : Label). m.node) (sym is) in
    subst (λ (o : List Label). IsSet xs o i l.node v) e
    (record {
      in' = p.0;
      rising = rising_names xs (set xs i (record { node = l.node; cost = v })) (names_set xs i l.node v l node p.0) rising;
      names = names_set xs i l.node v l node p.0;
      costs = at_set xs i l.node v l p.0 (subst (λ (n : ℕ). AllBelow xs i n) node (below_place xs i l rising p.0)) node;
    })

pub node_named_at : (xs old : List Label) (i : ℕ) (l : Label) → xs ≡ old → i < length (names old) → l ≡ get_or xs i l → l.node ≡ get_or (names old) i 0
node_named_at xs old i l e h is =
    let p = named_place xs i l (subst (λ (ls : List Label). i < length (names ls)) (sym e) h) in
    ap (λ (m : Label). m.node) is ∙ p.1 ∙ ap (λ (ls : List Label). get_or (names ls) i 0) e
