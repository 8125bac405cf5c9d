-- Marks, and what hangs on them.

use Rattle.std.proofs.Common.{◌≡◌, ◌≢◌, ◌∙◌, ℕ, ◌+◌, ◌≤◌, ◌<◌, false, List, [], ◌∷◌, ◌++◌, length, get_or, refl, sym, ap, subst, arith, inl, inr}
use Rattle.std.specs.List.{Contains}
use Rattle.std.specs.List.Sorted.{IsNonDecreasingBy}
use Rattle.std.specs.Option.{is_some}
use Rattle.std.proofs.lemmas.Bool.{cases_eq, cases_lt}
use Rattle.std.proofs.lemmas.List.{get_or_default, get_or_append_left, length-append}
use Rattle.std.proofs.lemmas.List.Elements.{Contains-append_left, Contains-push}
use Rattle.spf_tree.specs.declared.row.Row.{Row}
use Rattle.spf_tree.specs.declared.label.Label.{Label}
use Rattle.spf_tree.specs.Walks.{start, end}
use Rattle.spf_tree.specs.Labels.{at}
use Rattle.spf_tree.specs.Labels.{names}
use Rattle.spf_repair.specs.Erase.{IsMarked, HaveGrown, Hangs, RowHangs, HasParallel, IsStruck, IsErasing, IsClosed, HereHangs}
use Rattle.spf_tree.proofs.SearchLemmas.{IsLabelled, label_there}
use Rattle.spf_tree.proofs.ExploreLemmas.{mark_less, stays, front_trans}

-- ---- marks grow

pub grown_same : (root : ℕ) (marks : List Label) (nodes : List ℕ) → HaveGrown root marks nodes marks nodes
grown_same root marks nodes = record { names = refl; kept = λ n h. h; inside = λ in'. in'; front = record { longer = omega arith; same = λ k d h. refl }; few = omega arith; not_root = λ h. h }

pub grown_trans : (root : ℕ) (a b c : List Label) (x y z : List ℕ) → HaveGrown root a x b y → HaveGrown root b y c z → HaveGrown root a x c z
grown_trans root a b c x y z f g =
    let m = f.few in
    let n = g.few in
    record {
      names = g.names ∙ f.names;
      kept = λ k h. g.kept k (f.kept k h);
      inside = λ in'. g.inside (f.inside in');
      front = front_trans x y z f.front g.front;
      few = omega arith;
      not_root = λ h. g.not_root (f.not_root h);
    }

pub grown_push : (root node : ℕ) (marks later : List Label) (nodes : List ℕ) → Contains (names marks) node → node ≢ root → names later ≡ names marks → is_some (at marks node) ≡ false → IsLabelled marks later node 0 → HaveGrown root marks nodes later (nodes ++ node ∷ [])
grown_push root node marks later nodes named ne same open_ labelled =
    let less = mark_less marks later node named same open_ labelled in
    record {
      names = same;
      kept = λ n h. stays marks later node n labelled h;
      inside = λ in' n h.
          elim (cases_eq n node) [
            | inl is ↦ subst (λ (m : ℕ). Contains (nodes ++ node ∷ []) m) (sym is) (Contains-push nodes node)
            | inr other ↦ Contains-append_left nodes (node ∷ []) n (in' n (ap is_some (sym (label_there marks later node 0 n labelled other)) ∙ h))
          ];
      front = record { longer = omega (arith, length-append nodes (node ∷ [])); same = λ k d h. get_or_append_left nodes (node ∷ []) d k h };
      few = omega (arith, less, length-append nodes (node ∷ []));
      not_root = λ h. ap is_some (label_there marks later node 0 root labelled (λ is. ne (sym is))) ∙ h;
    }

-- ---- the search for a parallel row

pub no_parallel : (rows : List Row) (from to metric m : ℕ) (e : Row) → IsNonDecreasingBy start rows → m < length rows → from < start (get_or rows m e)
    → ((k : ℕ) (d : Row) → k < m → start (get_or rows k d) ≡ from → end (get_or rows k d) ≡ to → (get_or rows k d).metric ≤ metric → ⊥)
    → HasParallel rows from to metric → ⊥
no_parallel rows from to metric m e sorted in' past none h =
    let k = h.1.0 in
    let at_k : get_or rows k h.0 ≡ h.0 = h.1.2 in
    elim (cases_lt k m) [
      | inl less ↦ none k h.0 less (ap start at_k ∙ h.2) (ap end at_k ∙ h.3) (subst (λ (r : Row). r.metric ≤ metric) (sym at_k) h.4)
      | inr not_less ↦
          let up = sorted m k e not_less h.1.1 in
          let same = ap start (get_or_default rows k e h.0 h.1.1) in
          let is = ap start at_k in
          let st = h.2 in
          absurd (omega arith)
    ]

-- ---- the rows from a node are looked at

pub hang_more : (rows : List Row) (root : ℕ) (old : List Label) (node : ℕ) (marks later : List Label) (m to : ℕ) (e : Row) → m < length rows → start (get_or rows m e) ≡ node → to ≡ end (get_or rows m e)
    → HereHangs rows root old node marks m → ((n : ℕ) → IsMarked marks n → IsMarked later n) → (to ≢ root → Hangs old node to (get_or rows m e).metric → IsMarked later to) → HereHangs rows root old node later (m + 1)
hang_more rows root old node marks later m to e in' starts to_is before kept now k d h =
    elim (cases_lt k m) [
      | inl less ↦ λ from ne hang. kept (end (get_or rows k d)) (before k d less from ne hang)
      | inr not_less ↦
          let k_is : m ≡ k = omega arith in
          let same : get_or rows m e ≡ get_or rows k d = get_or_default rows m e d in' ∙ ap (λ (j : ℕ). get_or rows j d) k_is in
          let here : end (get_or rows m e) ≢ root → RowHangs old (get_or rows m e) → IsMarked later (end (get_or rows m e)) = λ ne hang.
          subst (λ (n : ℕ). IsMarked later n) to_is (now (λ is. ne (sym to_is ∙ is)) (hang.0, hang.1, ap (at old) (sym starts) ∙ hang.2, ap (at old) to_is ∙ hang.3, hang.4)) in
          λ from. subst (λ (r : Row). end r ≢ root → RowHangs old r → IsMarked later (end r)) same here
    ]

pub hang_done : (rows : List Row) (root : ℕ) (old : List Label) (node : ℕ) (marks : List Label) (m : ℕ) (e : Row) → m < length rows → IsNonDecreasingBy start rows → node < start (get_or rows m e) → HereHangs rows root old node marks m → HereHangs rows root old node marks (length rows)
hang_done rows root old node marks m e in' sorted past before k d h from =
    elim (cases_lt k m) [
      | inl less ↦ before k d less from
      | inr not_less ↦
          let up = sorted m k d not_less h in
          let same = ap start (get_or_default rows m d e in') in
          absurd (omega arith)
    ]

pub here_row : (rows : List Row) (root : ℕ) (old : List Label) (node : ℕ) (marks : List Label) → HereHangs rows root old node marks (length rows) → (row : Row) → Contains rows row → start row ≡ node → end row ≢ root → RowHangs old row → IsMarked marks (end row)
here_row rows root old node marks h row there =
    subst (λ (r : Row). start r ≡ node → end r ≢ root → RowHangs old r → IsMarked marks (end r)) there.2 (h there.0 row there.1)

-- ---- one node more

pub erased_more : (rows : List Row) (root : ℕ) (old marks later : List Label) (nodes more : List ℕ) (many e node : ℕ) → many < length nodes → node ≡ get_or nodes many e
    → IsErasing rows root old marks nodes many → HaveGrown root marks nodes later more → ((row : Row) → Contains rows row → start row ≡ node → end row ≢ root → RowHangs old row → IsMarked later (end row)) → IsErasing rows root old later more (many + 1)
erased_more rows root old marks later nodes more many e node in' is ex grown here =
    let longer = grown.front.longer in
    record {
      within = omega arith;
      marked = grown.inside ex.marked;
      closed = λ k d row h there st ne hang.
          elim (cases_lt k many) [
            | inl less ↦ grown.kept (end row) (ex.closed k d row less there (st ∙ grown.front.same k d (omega arith)) ne hang)
            | inr not_less ↦
                let k_is : k ≡ many = omega arith in
                let st_node : start row ≡ node = st ∙ ap (λ (j : ℕ). get_or more j d) k_is ∙ grown.front.same many d in' ∙ get_or_default nodes many d e in' ∙ sym is in
                here row there st_node ne hang
          ];
    }

pub erased_all : (rows : List Row) (root : ℕ) (old marks : List Label) (nodes : List ℕ) (many : ℕ) → length nodes ≤ many → is_some (at marks root) ≡ false → IsErasing rows root old marks nodes many → IsClosed rows root old marks
erased_all rows root old marks nodes many past root_free ex =
    record {
      not_root = root_free;
      hangs = λ row there m ne hang.
          let in_list = ex.marked (start row) m in
          ex.closed in_list.0 (start row) row (let l = in_list.1 in omega arith) there (sym in_list.2) ne hang;
    }

pub erase_first : (rows : List Row) (root : ℕ) (old marks : List Label) (nodes : List ℕ) → ((n : ℕ) → IsMarked marks n → Contains nodes n) → IsErasing rows root old marks nodes 0
erase_first rows root old marks nodes inside = record { within = omega arith; marked = inside; closed = λ k d row h. absurd (omega arith) }

-- ---- removed rows

pub struck_kept : (rows : List Row) (root : ℕ) (old marks later : List Label) (row : Row) → ((n : ℕ) → IsMarked marks n → IsMarked later n) → IsStruck rows root old marks row → IsStruck rows root old later row
struck_kept rows root old marks later row kept h =
    elim h [ inl a ↦ inl a | inr b ↦ elim b [ inl x ↦ inr (inl x) | inr y ↦ elim y [ inl p ↦ inr (inr (inl p)) | inr m ↦ inr (inr (inr (kept (end row) m))) ] ] ]
