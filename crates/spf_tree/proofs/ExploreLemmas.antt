-- An exploration over tight rows.

use Rattle.std.proofs.Common.{◌≡◌, ◌≢◌, ◌∙◌, ℕ, zero, suc, ◌+◌, ◌≤◌, ◌<◌, Bool, true, false, not, cond, List, [], ◌∷◌, ◌++◌, length, get_or, Option, Some, None, refl, sym, ap, subst, arith, inl, inr}
use Rattle.std.specs.List.{Contains, count_by}
use Rattle.std.specs.List.Sorted.{IsNonDecreasingBy}
use Rattle.std.specs.Option.{is_some}
use Rattle.std.proofs.lemmas.Bool.{cases_eq, cases_lt, true≢false, false≢true}
use Rattle.std.proofs.lemmas.List.{get_or_default, get_or_append_left, length-append}
use Rattle.std.proofs.lemmas.List.Elements.{Contains-get_or, Contains-append_left, Contains-push, Contains-push_cases}
use Rattle.std.proofs.lemmas.List.Sums.{sum_by-cons}
use Rattle.spf_tree.specs.declared.row.Row.{Row}
use Rattle.spf_tree.specs.declared.label.Label.{Label}
use Rattle.spf_tree.specs.Walks.{start, end}
use Rattle.spf_tree.specs.Labels.{at}
use Rattle.spf_tree.specs.Labels.{names}
use Rattle.spf_tree.specs.Exploring.{IsTight, goes_on, Leads, AreReached, IsTouched, unmarked, IsExploring, IsSpreading, IsFront}
use Rattle.spf_tree.proofs.SearchLemmas.{IsLabelled, label_here, label_there, some_of}
use Rattle.spf_tree.proofs.LabelLemmas.{named_at}

-- ---- one mark more

step_le : (a b : Bool) (x y : ℕ) → (a ≡ true → b ≡ true) → x ≤ y → cond a 1 0 + x ≤ cond b 1 0 + y
step_le true true x y h l = omega arith
step_le true false x y h l = absurd (false≢true (h refl))
step_le false true x y h l = omega arith
step_le false false x y h l = omega arith

step_less : (a b : Bool) (x y : ℕ) → a ≡ false → b ≡ true → x ≤ y → (cond a 1 0 + x) + 1 ≤ cond b 1 0 + y
step_less true b x y e f l = absurd (false≢true (sym e))
step_less false true x y e f l = omega arith
step_less false false x y e f l = absurd (false≢true f)

step_less_later : (a b : Bool) (x y : ℕ) → (a ≡ true → b ≡ true) → x + 1 ≤ y → (cond a 1 0 + x) + 1 ≤ cond b 1 0 + y
step_less_later true true x y h l = omega arith
step_less_later true false x y h l = absurd (false≢true (h refl))
step_less_later false true x y h l = omega arith
step_less_later false false x y h l = omega arith

le_all : (p q : ℕ → Bool) (ns : List ℕ) → ((n : ℕ) → q n ≡ true → p n ≡ true) → count_by q ns ≤ count_by p ns
le_all p q [] h = omega arith
le_all p q (n ∷ ns) h = rw (sum_by-cons (λ y. cond (p y) 1 0) n ns, sum_by-cons (λ y. cond (q y) 1 0) n ns) (step_le (q n) (p n) (count_by q ns) (count_by p ns) (h n) (le_all p q ns h))

less_at : (p q : ℕ → Bool) (ns : List ℕ) (to k : ℕ) → ((n : ℕ) → q n ≡ true → p n ≡ true) → q to ≡ false → p to ≡ true → k < length ns → get_or ns k to ≡ to → count_by q ns + 1 ≤ count_by p ns
less_at p q [] to k h shut open_at l e = absurd (omega arith)
less_at p q (n ∷ ns) to zero h shut open_at l e =
    rw (sum_by-cons (λ y. cond (p y) 1 0) n ns, sum_by-cons (λ y. cond (q y) 1 0) n ns) (step_less (q n) (p n) (count_by q ns) (count_by p ns) (ap q e ∙ shut) (ap p e ∙ open_at) (le_all p q ns h))
less_at p q (n ∷ ns) to (suc k) h shut open_at l e =
    rw (sum_by-cons (λ y. cond (p y) 1 0) n ns, sum_by-cons (λ y. cond (q y) 1 0) n ns) (step_less_later (q n) (p n) (count_by q ns) (count_by p ns) (h n) (less_at p q ns to k h shut open_at (omega arith) e))

is_open : List Label → ℕ → Bool
is_open marks n = not (is_some (at marks n))

pub mark_less : (marks later : List Label) (to : ℕ) → Contains (names marks) to → names later ≡ names marks → is_some (at marks to) ≡ false → IsLabelled marks later to 0 → unmarked later + 1 ≤ unmarked marks
mark_less marks later to named same open_ labelled =
    let p : ℕ → Bool = λ n. not (is_some (at marks n)) in
    let q : ℕ → Bool = λ n. not (is_some (at later n)) in
    let kept : (n : ℕ) → q n ≡ true → p n ≡ true = λ n y.
    elim (cases_eq n to) [
      | inl is ↦ ap (λ (m : ℕ). not (is_some (at marks m))) is ∙ ap not open_
      | inr ne ↦ ap (λ (o : Option ℕ). not (is_some o)) (sym (label_there marks later to 0 n labelled ne)) ∙ y
    ] in
    let closed_ : q to ≡ false = ap (λ (o : Option ℕ). not (is_some o)) (label_here marks later to 0 labelled) in
    let less = less_at p q (names marks) to named.0 kept closed_ (ap not open_) named.1 named.2 in
    subst (λ (ns : List ℕ). count_by q ns + 1 ≤ count_by p (names marks)) (sym same) less

-- ---- the end of a row is added and marked

pub stays : (marks later : List Label) (to n : ℕ) → IsLabelled marks later to 0 → is_some (at marks n) ≡ true → is_some (at later n) ≡ true
stays marks later to n labelled h =
    elim (cases_eq n to) [
      | inl is ↦ ap is_some (ap (at later) is ∙ label_here marks later to 0 labelled)
      | inr ne ↦ ap is_some (label_there marks later to 0 n labelled ne) ∙ h
    ]

explored_push : (rows : List Row) (root : ℕ) (labels : List Label) (all : Bool) (from node : ℕ) (marks later : List Label) (nodes : List ℕ) (many : ℕ) (row : Row) → IsExploring rows root labels all from marks nodes many → Contains nodes node
    → Contains rows row → start row ≡ node → goes_on all root node ≡ true → end row ≢ root → IsTight labels row → IsLabelled marks later (end row) 0
    → IsExploring rows root labels all from later (nodes ++ end row ∷ []) many
explored_push rows root labels all from node marks later nodes many row ex at_node there starts goes ne tight labelled =
    let within = ex.within in
    record {
      first = Contains-append_left nodes (end row ∷ []) from ex.first;
      within = omega (arith, length-append nodes (end row ∷ []));
      walk = λ n h.
          elim (Contains-push_cases nodes (end row) n h) [
            | inl old ↦ ex.walk n old
            | inr is ↦
                let way = ex.walk (start row) (subst (λ (m : ℕ). Contains nodes m) (sym starts) at_node) in
                (row ∷ way.0, (there, is, (λ e. ne (is ∙ e)), tight, (ap (goes_on all root) starts ∙ goes), way.1))
          ];
      marked = λ n h.
          elim (cases_eq n (end row)) [
            | inl is ↦ subst (λ (m : ℕ). Contains (nodes ++ end row ∷ []) m) (sym is) (Contains-push nodes (end row))
            | inr other ↦ Contains-append_left nodes (end row ∷ []) n (ex.marked n (ap is_some (sym (label_there marks later (end row) 0 n labelled other)) ∙ h))
          ];
      unmarked = λ n h.
          elim (Contains-push_cases nodes (end row) n h) [
            | inl old ↦ stays marks later (end row) n labelled (ex.unmarked n old)
            | inr is ↦ ap is_some (ap (at later) (sym is) ∙ label_here marks later (end row) 0 labelled)
          ];
      closed = λ k d r l here st g er t.
          stays marks later (end row) (end r) labelled (ex.closed k d r l here (st ∙ get_or_append_left nodes (end row ∷ []) d k (omega arith)) g er t);
    }

pub record IsMore (rows : List Row) (root : ℕ) (labels : List Label) (all : Bool) (from node : ℕ) (marks : List Label) (nodes : List ℕ) (later : List Label) (more : List ℕ) (many place : ℕ) : Type 0 where
  pub spreading : IsSpreading rows root labels all from node later more many place
  pub front : IsFront nodes more
  pub few : unmarked later + length more ≤ unmarked marks + length nodes

-- the row at m is looked at too
here_more : (rows : List Row) (root : ℕ) (labels : List Label) (node : ℕ) (marks : List Label) (m : ℕ) (e : Row) → m < length rows
    → ((k : ℕ) (d : Row) → k < m → start (get_or rows k d) ≡ node → end (get_or rows k d) ≢ root → IsTight labels (get_or rows k d) → is_some (at marks (end (get_or rows k d))) ≡ true)
    → (end (get_or rows m e) ≢ root → IsTight labels (get_or rows m e) → is_some (at marks (end (get_or rows m e))) ≡ true)
    → (k : ℕ) (d : Row) → k < m + 1 → start (get_or rows k d) ≡ node → end (get_or rows k d) ≢ root → IsTight labels (get_or rows k d) → is_some (at marks (end (get_or rows k d))) ≡ true
here_more rows root labels node marks m e in' before now k d h =
    elim (cases_lt k m) [
      | inl less ↦ before k d less
      | inr not_less ↦
          let k_is : m ≡ k = omega arith in
          let same : get_or rows m e ≡ get_or rows k d = get_or_default rows m e d in' ∙ ap (λ (j : ℕ). get_or rows j d) k_is in
          λ from. subst (λ (r : Row). end r ≢ root → IsTight labels r → is_some (at marks (end r)) ≡ true) same now
    ]

pub touch_more : (rows : List Row) (root : ℕ) (labels : List Label) (all : Bool) (from node : ℕ) (marks : List Label) (nodes : List ℕ) (later : List Label) (more : List ℕ) (many m : ℕ) (e : Row)
    → m < length rows → start (get_or rows m e) ≡ node → goes_on all root node ≡ true → names marks ≡ names labels → names later ≡ names marks
    → IsSpreading rows root labels all from node marks nodes many m
    → IsTouched labels root node (end (get_or rows m e)) (get_or rows m e).metric marks nodes later more
    → IsMore rows root labels all from node marks nodes later more many (m + 1)
touch_more rows root labels all from node marks nodes later more many m e in' starts goes named same sp touched =
    let row = get_or rows m e in
    elim touched [
      | inl still ↦
          let now : end row ≢ root → IsTight labels row → is_some (at marks (end row)) ≡ true = λ ne tight.
          elim still.2 [
            | inl is ↦ absurd (ne is)
            | inr rest ↦ elim rest [ inl loose ↦ absurd (loose (tight.0, sym (ap (at labels) starts) ∙ tight.1, tight.2)) | inr done ↦ done ]
          ] in
          let base : IsMore rows root labels all from node marks nodes marks nodes many (m + 1) = record {
            spreading = record { so_far = sp.so_far; at_node = sp.at_node; here = here_more rows root labels node marks m e in' sp.here now };
            front = record { longer = omega arith; same = λ k d h. refl };
            few = omega arith;
          } in
          subst (λ (l : List Label). IsMore rows root labels all from node marks nodes l more many (m + 1)) (sym still.0)
          (subst (λ (ns : List ℕ). IsMore rows root labels all from node marks nodes marks ns many (m + 1)) (sym still.1) base)
      | inr new ↦
          let tight : IsTight labels row = (new.1.0, ap (at labels) starts ∙ new.1.1, new.1.2) in
          let there : Contains (names marks) (end row) = subst (λ (ns : List ℕ). Contains ns (end row)) (sym named) (named_at labels (end row) (new.1.0 + row.metric) new.1.2) in
          let less = mark_less marks later (end row) there same new.2 new.4 in
          let base : IsMore rows root labels all from node marks nodes later (nodes ++ end row ∷ []) many (m + 1) = record {
            spreading = record {
              so_far = explored_push rows root labels all from node marks later nodes many row sp.so_far sp.at_node (Contains-get_or rows m e in') starts goes new.0 tight new.4;
              at_node = Contains-append_left nodes (end row ∷ []) node sp.at_node;
              here = here_more rows root labels node later m e in'
                  (λ k d h st ne t. stays marks later (end row) (end (get_or rows k d)) new.4 (sp.here k d h st ne t))
                  (λ ne t. ap is_some (label_here marks later (end row) 0 new.4));
            };
            front = record { longer = omega (arith, length-append nodes (end row ∷ [])); same = λ k d h. get_or_append_left nodes (end row ∷ []) d k h };
            few = omega (arith, less, length-append nodes (end row ∷ []));
          } in
          subst (λ (ns : List ℕ). IsMore rows root labels all from node marks nodes later ns many (m + 1)) (sym new.3) base
    ]

-- no row from here on starts at the node
pub spread_done : (rows : List Row) (root : ℕ) (labels : List Label) (all : Bool) (from node : ℕ) (marks : List Label) (nodes : List ℕ) (many m : ℕ) (e : Row) → m < length rows → IsNonDecreasingBy start rows → node < start (get_or rows m e)
    → IsSpreading rows root labels all from node marks nodes many m → IsSpreading rows root labels all from node marks nodes many (length rows)
spread_done rows root labels all from node marks nodes many m e in' sorted past sp =
    record {
      so_far = sp.so_far;
      at_node = sp.at_node;
      here = λ k d h st.
          elim (cases_lt k m) [
            | inl less ↦ sp.here k d less st
            | inr not_less ↦
                let up = sorted m k d not_less h in
                let same = ap start (get_or_default rows m d e in') in
                absurd (omega arith)
          ];
    }

-- ---- a node has been gone on from

pub visited : (rows : List Row) (root : ℕ) (labels : List Label) (all : Bool) (from node : ℕ) (marks : List Label) (nodes : List ℕ) (many e : ℕ) → many < length nodes → node ≡ get_or nodes many e → IsSpreading rows root labels all from node marks nodes many (length rows) → IsExploring rows root labels all from marks nodes (many + 1)
visited rows root labels all from node marks nodes many e in' is sp =
    let ex = sp.so_far in
    record {
      first = ex.first;
      within = omega arith;
      walk = ex.walk;
      marked = ex.marked;
      unmarked = ex.unmarked;
      closed = λ k d row h there st g ne t.
          elim (cases_lt k many) [
            | inl less ↦ ex.closed k d row less there st g ne t
            | inr not_less ↦
                let k_is : k ≡ many = omega arith in
                let st_node : start row ≡ node = st ∙ ap (λ (j : ℕ). get_or nodes j d) k_is ∙ get_or_default nodes many d e in' ∙ sym is in
                let found : start row ≡ node → end row ≢ root → IsTight labels row → is_some (at marks (end row)) ≡ true =
                subst (λ (r : Row). start r ≡ node → end r ≢ root → IsTight labels r → is_some (at marks (end r)) ≡ true) there.2 (sp.here there.0 row there.1) in
                found st_node ne t
          ];
    }

pub passed : (rows : List Row) (root : ℕ) (labels : List Label) (all : Bool) (from : ℕ) (marks : List Label) (nodes : List ℕ) (many e : ℕ) → many < length nodes → goes_on all root (get_or nodes many e) ≡ false → IsExploring rows root labels all from marks nodes many → IsExploring rows root labels all from marks nodes (many + 1)
passed rows root labels all from marks nodes many e in' stops ex =
    record {
      first = ex.first;
      within = omega arith;
      walk = ex.walk;
      marked = ex.marked;
      unmarked = ex.unmarked;
      closed = λ k d row h there st g ne t.
          elim (cases_lt k many) [
            | inl less ↦ ex.closed k d row less there st g ne t
            | inr not_less ↦
                let k_is : k ≡ many = omega arith in
                let st_node : start row ≡ get_or nodes many e = st ∙ ap (λ (j : ℕ). get_or nodes j d) k_is ∙ get_or_default nodes many d e in' in
                absurd (true≢false (sym g ∙ ap (goes_on all root) st_node ∙ stops))
          ];
    }

-- ---- the beginning and the end

pub explore_first : (rows : List Row) (root : ℕ) (labels : List Label) (all : Bool) (from : ℕ) (blank marks : List Label) → ((q : ℕ) → at blank q ≡ None) → IsLabelled blank marks from 0 → IsExploring rows root labels all from marks (from ∷ []) 0
explore_first rows root labels all from blank marks none labelled =
    let only : (n : ℕ) → Contains (from ∷ []) n → from ≡ n = λ n h. let l = h.1 in let e : h.0 ≡ 0 = omega arith in subst (λ (k : ℕ). get_or (from ∷ []) k n ≡ n) e h.2 in
    record {
      first = (0, omega arith, refl);
      within = omega arith;
      walk = λ n h. ([], sym (only n h));
      marked = λ n h.
          elim (cases_eq n from) [
            | inl is ↦ (0, omega arith, sym is)
            | inr ne ↦ absurd (false≢true (sym (ap is_some (label_there blank marks from 0 n labelled ne ∙ none n)) ∙ h))
          ];
      unmarked = λ n h. ap is_some (ap (at marks) (sym (only n h)) ∙ label_here blank marks from 0 labelled);
      closed = λ k d row h. absurd (omega arith);
    }

every_node : (rows : List Row) (root : ℕ) (labels : List Label) (all : Bool) (from : ℕ) (marks : List Label) (nodes : List ℕ) → IsExploring rows root labels all from marks nodes (length nodes) → (walk : List Row) (node : ℕ) → Leads rows root labels all from walk node → Contains nodes node
every_node rows root labels all from marks nodes ex [] node h = subst (λ (n : ℕ). Contains nodes n) (sym h) ex.first
every_node rows root labels all from marks nodes ex (row ∷ walk) node h =
    let before = every_node rows root labels all from marks nodes ex walk (start row) h.5 in
    let marked = ex.closed before.0 (start row) row before.1 h.0 (sym before.2) h.4 (λ is. h.2 (sym h.1 ∙ is)) h.3 in
    subst (λ (n : ℕ). Contains nodes n) h.1 (ex.marked (end row) marked)

pub explored : (rows : List Row) (root : ℕ) (labels : List Label) (all : Bool) (from : ℕ) (marks : List Label) (nodes : List ℕ) (many : ℕ) → length nodes ≤ many → IsExploring rows root labels all from marks nodes many → AreReached rows root labels all from nodes
explored rows root labels all from marks nodes many past ex =
    let within = ex.within in
    let e : many ≡ length nodes = omega arith in
    record { walk = ex.walk; every = every_node rows root labels all from marks nodes (subst (λ (k : ℕ). IsExploring rows root labels all from marks nodes k) e ex) }

-- ---- as the code has it

stuck : (rows : List Row) (root : ℕ) (labels : List Label) (all : Bool) (from : ℕ) → at labels from ≡ None → (walk : List Row) (node : ℕ) → Leads rows root labels all from walk node → node ≡ from
stuck rows root labels all from none [] node h = h
stuck rows root labels all from none (row ∷ walk) node h =
    let is = stuck rows root labels all from none walk (start row) h.5 in
    let tight = h.3 in
    let e : Some tight.0 ≡ None = sym tight.1 ∙ ap (at labels) is ∙ none in
    cc

pub alone : (rows : List Row) (root : ℕ) (labels : List Label) (all : Bool) (from : ℕ) → at labels from ≡ None → AreReached rows root labels all from (from ∷ [])
alone rows root labels all from none =
    record {
      walk = λ n h. ([], (let l = h.1 in let e : h.0 ≡ 0 = omega arith in sym (subst (λ (k : ℕ). get_or (from ∷ []) k n ≡ n) e h.2)));
      every = λ walk n h. (0, omega arith, sym (stuck rows root labels all from none walk n h));
    }

pub from_named : (labels marks : List Label) (from : ℕ) → is_some (at labels from) ≡ true → names marks ≡ names labels → Contains (names marks) from
from_named labels marks from some same =
    let c = some_of (at labels from) some in
    subst (λ (ns : List ℕ). Contains ns from) (sym same) (named_at labels from c.0 c.1)

pub front_trans : (a b c : List ℕ) → IsFront a b → IsFront b c → IsFront a c
front_trans a b c f g =
    let m = f.longer in
    let n = g.longer in
    record { longer = omega arith; same = λ k d h. g.same k d (omega arith) ∙ f.same k d h }
