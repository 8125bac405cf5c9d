-- Costs carried over a change, and the bound on steps.

use Rattle.std.proofs.Common.{◌≡◌, ◌≢◌, ◌∙◌, ℕ, ◌+◌, ◌≤◌, true, false, List, [], ◌∷◌, Option, Some, None, ◌⊎◌, sym, ap, subst, arith, inl, inr}
use Rattle.std.specs.List.{Contains, IsDistinct}
use Rattle.std.specs.Option.{is_some}
use Rattle.std.proofs.lemmas.Bool.{cases_Bool, false≢true, true≢false}
use Rattle.spf_tree.specs.declared.row.Row.{Row}
use Rattle.spf_tree.specs.declared.label.Label.{Label}
use Rattle.spf_tree.specs.Walks.{start, end, IsWalk, cost, IsWithin, AreLeast}
use Rattle.spf_tree.specs.Labels.{at}
use Rattle.spf_tree.specs.Labels.{names}
use Rattle.spf_tree.specs.Search.{IsCovered, AreNamed, IsSearchKept}
use Rattle.spf_tree.specs.Exploring.{IsTight, Leads}
use Rattle.spf_repair.specs.Erase.{IsMarked, RowHangs, HasParallel, IsStruck, IsClosed}
use Rattle.spf_repair.specs.Feed.{IsFed, IsOfferedOn}
use Rattle.spf_repair.specs.Repair.{IsLoose, IsCounted}
use Rattle.spf_repair.specs.Change.{AreChanged, IsBound, OnlyFalls}
use Rattle.spf_tree.proofs.WalkLemmas.{within_more}
use Rattle.spf_tree.proofs.HopLemmas.{least_leads, root_zero}
use Rattle.spf_tree.proofs.LabelLemmas.{named_at}

-- ---- a node that isn't marked keeps a walk of no greater cost

record IsKept (rows : List Row) (root node most : ℕ) : Type 0 where
  pub walk : List Row
  pub is : IsWalk rows root walk node
  pub cheap : cost walk ≤ most

-- a row in place of the old one
step_on : (rows : List Row) (root : ℕ) (old marks : List Label) (row other : Row) (n most : ℕ) → IsClosed rows root old marks → Contains rows other → start other ≡ start row → end other ≡ end row → other.metric ≤ row.metric → end row ≡ n → n ≢ root → IsTight old row → is_some (at marks n) ≡ false
    → (is_some (at marks (start row)) ≡ false → IsKept rows root (start row) most) → IsKept rows root n (row.metric + most)
step_on rows root old marks row other n most closed there st en low is ne tight free before =
    elim (cases_Bool (is_some (at marks (start row)))) [
      | inl marked ↦
          let hangs : RowHangs old other = (tight.0, tight.0 + row.metric, ap (at old) st ∙ tight.1, ap (at old) en ∙ tight.2, omega arith) in
          let m = closed.hangs other there (ap (λ (x : ℕ). is_some (at marks x)) st ∙ marked) (λ e. ne (sym is ∙ sym en ∙ e)) hangs in
          absurd (true≢false (sym m ∙ ap (λ (x : ℕ). is_some (at marks x)) (en ∙ is) ∙ free))
      | inr unmarked ↦
          let k : IsKept rows root (start row) most = before unmarked in
          let cheap = k.cheap in
          record { walk = other ∷ k.walk; is = (there, en ∙ is, ne, subst (λ (x : ℕ). IsWalk rows root k.walk x) (sym st) k.is); cheap = omega arith }
    ]

-- what is said of a removed row is said of one alike
struck_alike : (rows : List Row) (root : ℕ) (old marks : List Label) (row other : Row) → start other ≡ start row → end other ≡ end row → other.metric ≡ row.metric → IsStruck rows root old marks other → IsStruck rows root old marks row
struck_alike rows root old marks row other st en met h =
    elim h [
      | inl a ↦ inl (sym en ∙ a)
      | inr b ↦
          elim b [
            | inl loose ↦ inr (inl (λ t.
                let sum : t.0 + row.metric ≡ t.0 + other.metric = omega arith in
                loose (t.0, ap (at old) st ∙ t.1, ap (at old) en ∙ t.2 ∙ ap (λ (x : ℕ). Some x) sum)))
            | inr y ↦
                elim y [
                  | inl p ↦ let low = p.4 in inr (inr (inl (p.0, p.1, p.2 ∙ st, p.3 ∙ en, omega arith)))
                  | inr m ↦ inr (inr (inr (subst (λ (n : ℕ). IsMarked marks n) en m)))
                ]
          ]
    ]

new_walk : (before rows removed added : List Row) (root : ℕ) (old marks : List Label) → AreChanged before rows removed added → ((row : Row) → Contains removed row → IsStruck rows root old marks row) → IsClosed rows root old marks
    → (walk : List Row) (n : ℕ) → Leads before root old true root walk n → is_some (at marks n) ≡ false → IsKept rows root n (cost walk)
new_walk before rows removed added root old marks differ struck closed [] n h free = record { walk = []; is = h; cheap = omega arith }
new_walk before rows removed added root old marks differ struck closed (row ∷ walk) n h free =
    let rest : is_some (at marks (start row)) ≡ false → IsKept rows root (start row) (cost walk) = λ f. new_walk before rows removed added root old marks differ struck closed walk (start row) h.5 f in
    elim (differ.stays row h.0) [
      | inl still ↦ let met = still.4 in step_on rows root old marks row still.0 n (cost walk) closed still.1 still.2 still.3 (omega arith) h.1 h.2 h.3 free rest
      | inr gone ↦
          elim (struck_alike rows root old marks row gone.0 gone.2 gone.3 gone.4 (struck gone.0 gone.1)) [
            | inl at_root ↦ absurd (h.2 (sym h.1 ∙ at_root))
            | inr more ↦
                elim more [
                  | inl loose ↦ absurd (loose h.3)
                  | inr last ↦
                      elim last [
                        | inl other ↦ step_on rows root old marks row other.0 n (cost walk) closed other.1 other.2 other.3 other.4 h.1 h.2 h.3 free rest
                        | inr marked ↦ absurd (true≢false (sym marked ∙ ap (λ (x : ℕ). is_some (at marks x)) h.1 ∙ free))
                      ]
                ]
          ]
    ]

-- ---- the labels carried over, with what was offered, cover all rows

pub named_by : (rows : List Row) (nodes : List ℕ) (root : ℕ) (labels : List Label) → IsSearchKept rows nodes → Contains nodes root → names labels ≡ nodes → AreNamed rows root (names labels)
named_by rows nodes root labels kept among same =
    record {
      first = subst (λ (ns : List ℕ). Contains ns root) (sym same) among;
      ends = λ row h. subst (λ (ns : List ℕ). Contains ns (end row)) (sym same) (kept.ends row h);
    }

pub loose_start : (before rows removed added : List Row) (root : ℕ) (old marks labels : List Label) (first queue : List (ℕ × ℕ))
    → AreLeast before root (at old) → AreChanged before rows removed added → ((row : Row) → Contains removed row → IsStruck rows root old marks row) → IsClosed rows root old marks
    → AreNamed rows root (names labels)
    → ((n c : ℕ) → at labels n ≡ Some c → (at old n ≡ Some c) × (is_some (at marks n) ≡ false))
    → ((n : ℕ) → Contains (names labels) n → is_some (at marks n) ≡ false → at labels n ≡ at old n)
    → IsFed rows root labels queue
    → ((row : Row) → Contains rows row → IsMarked marks (end row) → IsOfferedOn labels root queue row)
    → ((row : Row) → Contains added row → IsOfferedOn labels root queue row)
    → IsLoose rows root labels queue
loose_start before rows removed added root old marks labels first queue least differ struck closed named from into fed of_marked of_added =
    let upper : (n c : ℕ) → at labels n ≡ Some c → (walk : List Row) × IsWalk rows root walk n × (cost walk ≤ c) = λ n c e.
    let f = from n c e in
    let w = least.walk n c f.0 in
    let leads = least_leads before root old least w.0 n w.1 (f.0 ∙ ap (λ (x : ℕ). Some x) (sym w.2)) in
    let k : IsKept rows root n (cost w.0) = new_walk before rows removed added root old marks differ struck closed w.0 n leads f.1 in
    let cheap = k.cheap in
    let same = w.2 in
    (k.walk, k.is, omega arith) in
    record {
      upper = record { walk = upper };
      offered = λ o h.
          let f = fed o h in
          let row = f.0 in
          let g = f.2 in
          let w = upper (start row) g.0 g.1 in
          let cheap = w.2 in
          let sum = g.4 in
          (row ∷ w.0, (f.1, g.3, (λ is. g.2 (g.3 ∙ is)), w.1), omega arith);
      relaxed = λ row c there ne e small.
          elim (differ.comes row there) [
            | inl was ↦
                elim (cases_Bool (is_some (at marks (end row)))) [
                  | inl marked ↦ of_marked row there marked c e ne small
                  | inr free ↦
                      let f = from (start row) c e in
                      let w = least.walk (start row) c f.0 in
                      let same = w.2 in
                      let met = was.4 in
                      let within : IsWithin (at old (end row)) (was.0.metric + cost w.0) = least.least (was.0 ∷ w.0) (end row) (was.1, was.3, ne, subst (λ (x : ℕ). IsWalk before root w.0 x) (sym was.2) w.1) in
                      inl (subst (λ (o : Option ℕ). IsWithin o (c + row.metric)) (sym (into (end row) (named.ends row there) free)) (within_more (at old (end row)) (was.0.metric + cost w.0) (c + row.metric) (omega arith) within))
                ]
            | inr new ↦
                let met = new.4 in
                let total : c + new.0.metric ≡ c + row.metric = omega arith in
                let covered : IsCovered labels queue (end new.0) (c + new.0.metric) = of_added new.0 new.1 c (ap (at labels) new.2 ∙ e) (λ is. ne (sym new.3 ∙ is)) (omega arith) in
                subst (λ (n : ℕ). IsCovered labels queue n (c + row.metric)) new.3 (subst (λ (n : ℕ). IsCovered labels queue (end new.0) n) total covered)
          ];
      zero = inl (subst (λ (o : Option ℕ). IsWithin o 0) (sym (into root named.first closed.not_root ∙ root_zero before root old least)) (omega arith));
      named = λ o h. let f = fed o h in subst (λ (x : ℕ). Contains (names labels) x) f.2.3 (named.ends f.0 f.1);
    }

-- ---- the bound on steps

pub bound_is : (old carried new marks : List Label) (queue : List (ℕ × ℕ)) (listed before middle after : ℕ) → middle ≡ before + listed → IsCounted carried new queue middle after → names new ≡ names carried → ((n : ℕ) → is_some (at marks n) ≡ false)
    → ((n : ℕ) → Contains (names carried) n → is_some (at marks n) ≡ false → at carried n ≡ at old n) → IsBound (at old) (at new) listed before after
bound_is old carried new marks queue listed before middle after mid counted same free into =
    let many = counted.many in
    record {
      changed = counted.settled;
      distinct = counted.distinct;
      differ = λ n h e.
          let c = counted.changed n h in
          let n_named : Contains (names carried) n = subst (λ (ns : List ℕ). Contains ns n) same (named_at new n c.0 c.1) in
          let was : at carried n ≡ Some c.0 = into n n_named (free n) ∙ sym e ∙ c.1 in
          c.2 (subst (λ (o : Option ℕ). IsWithin o c.0) (sym was) (omega arith));
      bound = omega arith;
    }

-- no node is marked where nothing was struck
pub none_marked : (blank marks : List Label) → ((q : ℕ) → at blank q ≡ None) → marks ≡ blank → (n : ℕ) → is_some (at marks n) ≡ false
none_marked blank marks none same n = ap (λ (l : List Label). is_some (at l n)) same ∙ ap is_some (none n)

pub no_marks : (blank : List Label) → ((q : ℕ) → at blank q ≡ None) → (n : ℕ) → IsMarked blank n → ⊥
no_marks blank none n h = false≢true (sym (ap is_some (none n)) ∙ h)

pub bound_none : (costs : ℕ → Option ℕ) (listed n : ℕ) → IsBound costs costs listed n n
unfolding IsDistinct
bound_none costs listed n = record { changed = []; distinct = tt; differ = λ m h. let l = h.1 in absurd (omega arith); bound = omega arith }

pub falls_parallel : (before rows removed added : List Row) → AreChanged before rows removed added → OnlyFalls removed added → (row : Row) → Contains removed row → HasParallel rows (start row) (end row) row.metric
falls_parallel before rows removed added differ falls row h =
    let f = falls row h in
    let a = differ.there f.0 f.1 in
    let low = f.4 in
    let met = a.4 in
    (a.0, a.1, a.2 ∙ f.2, a.3 ∙ f.3, omega arith)

pub bound_by : (a b c d : ℕ → Option ℕ) (listed before after : ℕ) → ((n : ℕ) → a n ≡ c n) → ((n : ℕ) → b n ≡ d n) → IsBound a b listed before after → IsBound c d listed before after
bound_by a b c d listed before after old new bound =
    record { changed = bound.changed; distinct = bound.distinct; differ = λ n h e. bound.differ n h (new n ∙ e ∙ sym (old n)); bound = bound.bound }

-- where the rows after a change end
pub ends_alike : (before rows removed added : List Row) → AreChanged before rows removed added → (row : Row) → Contains rows row → (other : Row) × (Contains before other ⊎ Contains added other) × (end other ≡ end row)
ends_alike before rows removed added differ row h =
    elim (differ.comes row h) [
      | inl was ↦ (was.0, inl was.1, was.3)
      | inr new ↦ (new.0, inr new.1, new.3)
    ]
