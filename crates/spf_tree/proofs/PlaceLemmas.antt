-- Nodes by their places: spans of rows, edges, and offers to places.

use Rattle.std.proofs.Common.{◌≡◌, ◌∙◌, ℕ, ◌+◌, ◌-◌, ◌≤◌, ◌<◌, List, [], ◌∷◌, ◌++◌, length, take, drop, get_or, cond, Err, sym, ap, subst, arith, inl, inr}
use Rattle.std.proofs.Math.Seq.{get_or-append_seam}
use Rattle.std.specs.List.{All, Contains, count_by}
use Rattle.std.specs.Ordering.{nat_cmp}
use Rattle.std.specs.List.Sorted.{IsNonDecreasingBy, IsStrictlyIncreasing, IsBinarySearchResult, IsPermutation}
use Rattle.std.proofs.lemmas.Bool.{cases_lt}
use Rattle.std.proofs.lemmas.List.{get_or_default, get_or_append_left, get_or-append_right, get_or-drop, get_or-take, length-append, length-drop, length-take-le, take_all}
use Rattle.std.proofs.lemmas.List.Elements.{All-map}
use Rattle.std.proofs.lemmas.List.Sums.{sum_by-take-le}
use Rattle.std.proofs.lemmas.List.Sorted.{searched, Contains-permutation, IsPermutation-map, IsPermutation-sym}
use Rattle.std.proofs.lemmas.List.Kept.{AllPairs-from_increasing}
use Rattle.spf_tree.specs.declared.row.Row.{Row}
use Rattle.spf_tree.specs.declared.edge.Edge.{Edge}
use Rattle.spf_tree.specs.declared.edge.Ends.{Ends}
use Rattle.spf_tree.specs.declared.edge.Span.{Span}
use Rattle.spf_tree.specs.Walks.{start, end}
use Rattle.spf_tree.specs.Places.{node_at, offer_at, offers_at, AreToPlaces, HaveEnds, IsEdge, AreEdges, IsSpan}
use Rattle.spf_tree.specs.Labels.{names}
use Rattle.spf_tree.specs.declared.label.Label.{Label}
use Rattle.spf_tree.specs.Search.{IsOffered, HaveOffered, IsSearchKept, AreNamed, starts}
use Rattle.spf_tree.proofs.SearchLemmas.{contains_first, contains_rest, contains_cases, contains_none}

-- ---- nodes in order

-- an earlier node is no greater
pub nodes_rise : (nodes : List ℕ) → IsStrictlyIncreasing nodes → (i j : ℕ) → i ≤ j → j < length nodes → get_or nodes i 0 ≤ get_or nodes j 0
nodes_rise nodes up i j h l =
    elim (cases_lt i j) [
      | inl less ↦ let below = AllPairs-from_increasing nodes up i j 0 less l in omega arith
      | inr not_less ↦ let e : i ≡ j = omega arith in subst (λ (k : ℕ). get_or nodes i 0 ≤ get_or nodes k 0) e (omega arith)
    ]

pub next_node : (nodes : List ℕ) → IsStrictlyIncreasing nodes → (i : ℕ) → i + 1 < length nodes → node_at nodes i < node_at nodes (i + 1)
next_node nodes up i l = AllPairs-from_increasing nodes up i (i + 1) 0 (omega arith) l

-- a node that is there is found
pub no_place : (nodes : List ℕ) (n i : ℕ) → IsStrictlyIncreasing nodes → Contains nodes n → IsBinarySearchResult (λ y. nat_cmp y n) nodes (Err i) → ⊥
no_place nodes n i up h r =
    let s = searched nodes n (Err i) r (nodes_rise nodes up) in
    let k = h.0 in
    let in' = h.1 in
    let is : get_or nodes k 0 ≡ n = get_or_default nodes k 0 n in' ∙ h.2 in
    elim (cases_lt k i) [
      | inl less ↦ let low = s.1 k less in omega arith
      | inr not_less ↦ let high = s.2 k (omega arith) in' in omega arith
    ]

-- ---- rows from a place on

pub above_by : (rows : List Row) (n m : ℕ) (e : Row) → IsNonDecreasingBy start rows → m < length rows → n < start (get_or rows m e) → (k : ℕ) (d : Row) → m ≤ k → k < length rows → n < start (get_or rows k d)
above_by rows n m e sorted in' high k d h l =
    let up = sorted m k d h l in
    let same = ap start (get_or_default rows m d e in') in
    omega arith

-- ---- one item more

each_push : {X : Type 0} (P : ℕ → X → Type 0) (xs : List X) (x : X) (m : ℕ) → length xs ≡ m → ((k : ℕ) (e : X) → k < m → P k (get_or xs k e)) → P m x → (k : ℕ) (e : X) → k < m + 1 → P k (get_or (xs ++ x ∷ []) k e)
each_push P xs x m long before here k e h =
    elim (cases_lt k m) [
      | inl less ↦ subst (P k) (sym (get_or_append_left xs (x ∷ []) e k (omega arith))) (before k e less)
      | inr not_less ↦
          let k_is : length xs ≡ k = omega arith in
          let m_is : m ≡ k = omega arith in
          subst (P k) (sym (ap (λ (j : ℕ). get_or (xs ++ x ∷ []) j e) (sym k_is) ∙ get_or-append_seam xs x [] e)) (subst (λ (j : ℕ). P j x) m_is here)
    ]

pub edges_push : (nodes : List ℕ) (rows : List Row) (edges more : List Edge) (edge : Edge) (m : ℕ) (d : Row) → m < length rows → more ≡ edges ++ edge ∷ [] → AreEdges nodes rows edges m → IsEdge nodes (get_or rows m d) edge → AreEdges nodes rows more (m + 1)
edges_push nodes rows edges more edge m d in' is before here =
    let long = before.long in
    record {
      long = ap length is ∙ omega (arith, length-append edges (edge ∷ []));
      each = λ k r e h.
          subst (λ (es : List Edge). (j : ℕ) (e : Edge) → j < m + 1 → IsEdge nodes (get_or rows j r) (get_or es j e)) (sym is)
          (each_push (λ (j : ℕ) (x : Edge). IsEdge nodes (get_or rows j r) x) edges edge m before.long (λ j x l. before.each j r x l)
          (subst (λ (row : Row). IsEdge nodes row edge) (get_or_default rows m d r in') here))
          k e h;
    }

-- what an index gives past the end
abbrev pub no_edge : Edge
no_edge = record { place = 0; metric = 0 }

-- the edges of the first rows, where these are the first old ones
pub edges_first : (nodes : List ℕ) (old rows : List Row) (known none edges : List Edge) (same : Ends) → HaveEnds old rows same → AreEdges nodes old known (length old) → none ≡ [] → edges ≡ none ++ take same.first known
    → AreEdges nodes rows edges same.first
edges_first nodes old rows known none edges same ends are empty is =
    let within = ends.within_old in
    let long = are.long in
    let items : edges ≡ take same.first known = is ∙ ap (λ (es : List Edge). es ++ take same.first known) empty in
    record {
      long = ap length items ∙ length-take-le same.first known (omega arith);
      each = λ k d e h.
          let row = ends.first k d h in
          let edge : get_or edges k e ≡ get_or known k e = ap (λ (es : List Edge). get_or es k e) items ∙ get_or-take same.first known k e h in
          subst (λ (x : Edge). IsEdge nodes (get_or rows k d) x) (sym edge)
          (subst (λ (r : Row). IsEdge nodes r (get_or known k e)) (sym row) (are.each k d e (omega arith)));
    }

-- the edges of the last rows behind those of the others, where these are the last old ones
pub edges_last : (nodes : List ℕ) (old rows : List Row) (known edges all : List Edge) (same : Ends) (past : ℕ) → HaveEnds old rows same → AreEdges nodes old known (length old) → past + same.last ≡ length rows → AreEdges nodes rows edges past
    → all ≡ edges ++ take (length known - (length known - same.last)) (drop (length known - same.last) known) → AreEdges nodes rows all (length rows)
edges_last nodes old rows known edges all same past ends are sum before told =
    let within = ends.within_old in
    let within_new = ends.within in
    let long = are.long in
    let past_long = before.long in
    let from = length known - same.last in
    let rest : length (drop from known) ≡ same.last = length-drop from known ∙ omega arith in
    let is : all ≡ edges ++ drop from known = told ∙ ap (λ (es : List Edge). edges ++ es) (take_all (length known - from) (drop from known) (omega arith)) in
    record {
      long = ap length is ∙ length-append edges (drop from known) ∙ omega arith;
      each = λ k d e h.
          subst (λ (es : List Edge). IsEdge nodes (get_or rows k d) (get_or es k e)) (sym is)
          (elim (cases_lt k past) [
            | inl less ↦ subst (λ (x : Edge). IsEdge nodes (get_or rows k d) x) (sym (get_or_append_left edges (drop from known) e k (omega arith))) (before.each k d e less)
            | inr not_less ↦
                let j = k - past in
                let k_is : length rows - same.last + j ≡ k = omega arith in
                let o_is : length old - same.last + j ≡ from + j = omega arith in
                let row : get_or rows k d ≡ get_or old (from + j) d =
                ap (λ (n : ℕ). get_or rows n d) (sym k_is) ∙ ends.last j d (omega arith) ∙ ap (λ (n : ℕ). get_or old n d) o_is in
                let edge : get_or (edges ++ drop from known) k e ≡ get_or known (from + j) e =
                get_or-append_right edges (drop from known) past k e past_long (omega arith) ∙ get_or-drop from known j e in
                subst (λ (x : Edge). IsEdge nodes (get_or rows k d) x) (sym edge)
                (subst (λ (r : Row). IsEdge nodes r (get_or known (from + j) e)) (sym row) (are.each (from + j) d e (omega arith)))
          ]);
    }

-- ---- the slice that is read and the list are one

pub ends_by : (rows slice : List Row) (nodes part : List ℕ) → rows ≡ slice → nodes ≡ part → ((row : Row) → Contains rows row → Contains nodes (end row)) → (row : Row) → Contains slice row → Contains part (end row)
ends_by rows slice nodes part e f h =
    subst (λ (ns : List ℕ). (row : Row) → Contains slice row → Contains ns (end row)) f
    (subst (λ (rs : List Row). (row : Row) → Contains rs row → Contains nodes (end row)) e h)

pub edges_by : (slice rows : List Row) (part nodes : List ℕ) (edges : List Edge) → slice ≡ rows → part ≡ nodes → AreEdges part slice edges (length slice) → AreEdges nodes rows edges (length rows)
edges_by slice rows part nodes edges e f h =
    subst (λ (ns : List ℕ). AreEdges ns rows edges (length rows)) f (subst (λ (rs : List Row). AreEdges part rs edges (length rs)) e h)

-- ---- offers to places

pub offers_push : (nodes : List ℕ) (sum place : ℕ) (old new : List (ℕ × ℕ)) → IsPermutation ((sum, place) ∷ old) new → IsPermutation ((sum, node_at nodes place) ∷ offers_at nodes old) (offers_at nodes new)
offers_push nodes sum place old new perm = IsPermutation-map (offer_at nodes) ((sum, place) ∷ old) new perm

pub offers_pop : (nodes : List ℕ) (queue rest : List (ℕ × ℕ)) (offer : ℕ × ℕ) → IsPermutation queue (offer ∷ rest) → IsPermutation (offers_at nodes queue) (offer_at nodes offer ∷ offers_at nodes rest)
offers_pop nodes queue rest offer perm = IsPermutation-map (offer_at nodes) queue (offer ∷ rest) perm

pub least_at : (nodes : List ℕ) (rest : List (ℕ × ℕ)) (cost : ℕ) → All (λ (o : ℕ × ℕ). cost ≤ o.0) rest → All (λ (o : ℕ × ℕ). cost ≤ o.0) (offers_at nodes rest)
least_at nodes rest cost least = All-map (λ (o : ℕ × ℕ). cost ≤ o.0) (offer_at nodes) rest least

pub places_push : (nodes : List ℕ) (sum place : ℕ) (old new : List (ℕ × ℕ)) → AreToPlaces nodes old → place < length nodes → IsPermutation ((sum, place) ∷ old) new → AreToPlaces nodes new
places_push nodes sum place old new before here perm =
    record {
      within = λ o h.
          elim (contains_cases (sum, place) o old (Contains-permutation new ((sum, place) ∷ old) o (IsPermutation-sym ((sum, place) ∷ old) new perm) h)) [
            | inl is ↦ subst (λ (p : ℕ × ℕ). p.1 < length nodes) is here
            | inr older ↦ before.within o older
          ];
    }

pub popped_place : (nodes : List ℕ) (queue rest : List (ℕ × ℕ)) (offer : ℕ × ℕ) → AreToPlaces nodes queue → IsPermutation queue (offer ∷ rest) → offer.1 < length nodes
popped_place nodes queue rest offer places perm =
    places.within offer (Contains-permutation (offer ∷ rest) queue offer (IsPermutation-sym queue (offer ∷ rest) perm) (contains_first offer rest))

pub places_rest : (nodes : List ℕ) (queue rest : List (ℕ × ℕ)) (offer : ℕ × ℕ) → AreToPlaces nodes queue → IsPermutation queue (offer ∷ rest) → AreToPlaces nodes rest
places_rest nodes queue rest offer places perm =
    record { within = λ o h. places.within o (Contains-permutation (offer ∷ rest) queue o (IsPermutation-sym queue (offer ∷ rest) perm) (contains_rest offer o rest h)) }

pub there_at : (nodes : List ℕ) (i : ℕ) → i < length nodes → Contains nodes (node_at nodes i)
there_at nodes i l = (i, l, get_or_default nodes i (node_at nodes i) 0 l)

pub named_by : (rows : List Row) (nodes ns : List ℕ) (r : ℕ) → IsSearchKept rows nodes → ns ≡ nodes → r < length nodes → AreNamed rows (node_at nodes r) ns
named_by rows nodes ns r kept e l =
    subst (λ (ms : List ℕ). AreNamed rows (node_at nodes r) ms) (sym e) (record { first = there_at nodes r l; ends = kept.ends })

-- ---- the rows of a span have offered

pub span_starts : (rows : List Row) (node : ℕ) (span : Span) (m : ℕ) (e : Row) → IsSpan rows node span → span.first ≤ m → m < span.past → start (get_or rows m e) ≡ node
span_starts rows node span m e is low high =
    let within = is.within in
    let up = is.here m e high in
    let down = is.first.above m e low (omega arith) in
    omega arith

-- no row from here on starts at the node
pub span_done : (rows : List Row) (root : ℕ) (labels : List Label) (node c m : ℕ) (old new : List (ℕ × ℕ)) → ((k : ℕ) (d : Row) → m ≤ k → k < length rows → node < start (get_or rows k d))
    → HaveOffered rows root labels node c old new m → HaveOffered rows root labels node c old new (length rows)
span_done rows root labels node c m old new past before =
    let few = before.few in
    let whole = ap (count_by (starts node)) (take_all (length rows) rows (omega arith)) in
    let part = sum_by-take-le (λ r. cond (starts node r) 1 0) rows m in
    record {
      kept = before.kept;
      from = before.from;
      given = λ k d h from.
          elim (cases_lt k m) [
            | inl less ↦ before.given k d less from
            | inr not_less ↦ let up = past k d not_less h in absurd (omega arith)
          ];
      few = omega arith;
    }

pub edge_offered : (nodes : List ℕ) (rows : List Row) (labels : List Label) (root cost m : ℕ) (e : Row) (edge : Edge) (old new : List (ℕ × ℕ)) → names labels ≡ nodes → IsEdge nodes (get_or rows m e) edge
    → IsOffered labels (node_at (names labels) root) (node_at (names labels) edge.place) (cost + edge.metric) (offers_at (names labels) old) (offers_at (names labels) new)
    → IsOffered labels (node_at nodes root) (end (get_or rows m e)) (cost + (get_or rows m e).metric) (offers_at nodes old) (offers_at nodes new)
edge_offered nodes rows labels root cost m e edge old new same is offered =
    subst (λ (k : ℕ). IsOffered labels (node_at nodes root) (end (get_or rows m e)) (cost + k) (offers_at nodes old) (offers_at nodes new)) is.metric
    (subst (λ (n : ℕ). IsOffered labels (node_at nodes root) n (cost + edge.metric) (offers_at nodes old) (offers_at nodes new)) is.node
    (subst (λ (ns : List ℕ). IsOffered labels (node_at ns root) (node_at ns edge.place) (cost + edge.metric) (offers_at ns old) (offers_at ns new)) same offered))

pub one_to_place : (nodes : List ℕ) (place : ℕ) (queue : List (ℕ × ℕ)) → place < length nodes → IsPermutation ((0, place) ∷ []) queue → AreToPlaces nodes queue
one_to_place nodes place queue within perm = places_push nodes 0 place [] queue (record { within = λ o h. absurd (contains_none o h) }) within perm
