-- Graphs with the same rows, each as often, have the same least costs and next hops.
use Rattle.std.proofs.Common.{◌≡◌, ◌∙◌, ℕ, ◌+◌, Bool, true, false, cond, List, [], ◌∷◌, Option, Some, None, refl, sym, ap, subst, arith, ◌↔◌, if◌then◌else◌}
use Rattle.std.specs.Prelude.{is_some}
use Rattle.std.specs.List.{Contains, filter, flat_map}
use Rattle.std.proofs.lemmas.List.Sums.{sum_by-cons}
use Rattle.isis_base.specs.declared.identifiers.NodeId.{NodeId}
use Rattle.isis_base.specs.declared.identifiers.LspId.{LspId}
use Rattle.lsp_store.specs.declared.entry.Entry.{Entry}
use Rattle.lsp_view.specs.Views.{rows_in, overloaded_in}
use Rattle.spf_tree.specs.declared.row.Row.{Row}
use Rattle.spf_tree.specs.Nodes.{node_number, is_system}
use Rattle.spf_tree.specs.Walks.{start, end, IsWalk, cost, IsWithin, AreLeast}
use Rattle.spf_tree.specs.Distances.{cost_at, AreDistances}
use Rattle.spf_tree.specs.Graphs.{GraphOf, AreUsable, is_usable, same_row, times}
use Rattle.spf_tree.specs.NextHops.{first_system, IsNextHop}
use Rattle.spf_tree.proofs.UsableLemmas.{alike}
use Rattle.spf_tree.proofs.DistanceLemmas.{least_same}
use Rattle.spf_repair.specs.Change.{IsAlike}
use Rattle.spf_repair.proofs.ReplaceLemmas.{times_in, in_times}
use Rattle.route_table.specs.declared.rank.Rank.{Rank}
use Rattle.route_table.specs.declared.rank.Rank.TheVariants.{Own, One, Two, OneDown, Default}
use Rattle.route_table.specs.declared.candidate.Candidate.{Candidate}
use Rattle.route_table.specs.Routes.{IsHopBy, IsHopTo}
use Rattle.router_routes.specs.Costs.{cost_of}
use Rattle.isis_base.specs.declared.identifiers.SystemId.{SystemId}
use Rattle.isis_base.specs.declared.level.Level.TheVariants as level
use Rattle.spf_repair.specs.Changes.{RepairedOf}
use Rattle.router_routes.specs.Outlooks.{Outlook, where_run, usable_rows, graph_in}
use Rattle.router_routes.specs.Candidates.{reached_by, reached_in}
use Rattle.router_routes.specs.Following.{IsLevel}
use Rattle.router_routes.proofs.CostLemmas.{costs-least}

-- ---- how often a row is kept

kept-one : (kept same here : Bool) (n m : ℕ) → (same ≡ true → here ≡ kept) → n ≡ (if kept then m else 0) → (if here then cond same 1 0 + n else n) ≡ (if kept then cond same 1 0 + m else 0)
kept-one true true here n m h e = rw (h refl) (omega arith)
kept-one false true here n m h e = rw (h refl) e
kept-one true false true n m h e = omega arith
kept-one true false false n m h e = omega arith
kept-one false false true n m h e = omega arith
kept-one false false false n m h e = e

push-count : (row x : Row) (xs : List Row) (here : Bool) → times (if here then x ∷ xs else xs) row ≡ (if here then cond (same_row row x) 1 0 + times xs row else times xs row)
push-count row x xs true = sum_by-cons (λ y. cond (same_row row y) 1 0) x xs
push-count row x xs false = refl

none-kept : (b : Bool) (z : ℕ) → (if b then z else z) ≡ z
none-kept true z = refl
none-kept false z = refl

pub kept-times : (p : ℕ → ℕ → ℕ → Bool) (rows : List Row) (row : Row) → times (filter (λ (r : Row). p (start r) (end r) r.metric) rows) row ≡ (if p (start row) (end row) row.metric then times rows row else 0)
kept-times p [] row = sym (none-kept (p (start row) (end row) row.metric) 0)
kept-times p (x ∷ rows) row =
    push-count row x (filter (λ (r : Row). p (start r) (end r) r.metric) rows) (p (start x) (end x) x.metric)
    ∙ rw (sum_by-cons (λ y. cond (same_row row y) 1 0) x rows)
    (kept-one (p (start row) (end row) row.metric) (same_row row x) (p (start x) (end x) x.metric) (times (filter (λ (r : Row). p (start r) (end r) r.metric) rows) row) (times rows row) (alike p row x) (kept-times p rows row))

abbrev Told : Type 0
Told = List (LspId × Entry)

abbrev pub IsGraphOf : Told → NodeId → GraphOf → Type 0
IsGraphOf told root graph = AreUsable (rows_in told) (overloaded_in told) root graph

pub graph-times : (told : Told) (root : NodeId) (graph : GraphOf) → IsGraphOf told root graph → (row : Row) → times graph.rows row ≡ times (usable_rows told root) row
graph-times told root graph is row = is.rows_are row ∙ sym (kept-times (is_usable (rows_in told) (overloaded_in told) (node_number root)) (rows_in told) row)

-- ---- walks of one list of rows are walks of the other

abbrev Into : List Row → List Row → Type 0
Into xs ys = (row : Row) → Contains xs row → IsAlike ys row

alike-in : (xs ys : List Row) → ((row : Row) → times xs row ≡ times ys row) → Into xs ys
alike-in xs ys same row h = let one = times_in xs row h in let e = same row in in_times ys row (omega (arith, one, e))

abbrev IsTwin : List Row → ℕ → List Row → ℕ → Type 0
IsTwin rows root w node = (v : List Row) × IsWalk rows root v node × (cost v ≡ cost w) × (first_system v ≡ first_system w)

first-by : Option ℕ → ℕ → Option ℕ
first-by before n = if is_some before then before else (if is_system n then Some n else None)

twin : (xs ys : List Row) (root : ℕ) → Into xs ys → (w : List Row) (node : ℕ) → IsWalk xs root w node → IsTwin ys root w node
unfolding first-by
twin xs ys root into [] node is = ([], is, refl, refl)
twin xs ys root into (row ∷ walk) node is =
    let o = into row is.0 in
    let v = twin xs ys root into walk (start row) is.3 in
    let sum = v.2 in
    let metric = o.4 in (
      o.0 ∷ v.0,
      (o.1, o.3 ∙ is.1, is.2, subst (λ (n : ℕ). IsWalk ys root v.0 n) (sym o.2) v.1),
      omega (arith, sum, metric),
      ap (λ (b : Option ℕ). first-by b (end o.0)) v.3 ∙ ap (first-by (first_system walk)) o.3,
    )

least-to : (xs ys : List Row) (root : ℕ) (costs : ℕ → Option ℕ) → Into xs ys → Into ys xs → AreLeast xs root costs → AreLeast ys root costs
least-to xs ys root costs to from least =
    record {
      walk = λ node c e. let w = least.walk node c e in let v = twin xs ys root to w.0 node w.1 in (v.0, v.1, v.2 ∙ w.2);
      least = λ w node is. let v = twin ys xs root from w node is in subst (IsWithin (costs node)) v.2 (least.least v.0 node v.1);
    }

hop-to : (xs ys : List Row) (root : ℕ) → Into xs ys → Into ys xs → (target hop : ℕ) → IsNextHop xs root target hop → IsNextHop ys root target hop
hop-to xs ys root to from target hop h =
    let v = twin xs ys root to h.0 target h.1.is in (
      v.0,
      (record {
        is = v.1;
        least = λ other is.
            let u = twin ys xs root from other target is in
            let le = h.1.least u.0 u.1 in
            let a = v.2 in
            let b = u.2 in
            omega (arith, le, a, b);
      }),
      v.3 ∙ h.2,
    )

-- ---- a level's graph

module _ (told : Told) (root : NodeId) (graph : GraphOf) (is : IsGraphOf told root graph) where
  into : Into graph.rows (usable_rows told root)
  into = alike-in graph.rows (usable_rows told root) (graph-times told root graph is)

  out : Into (usable_rows told root) graph.rows
  out = alike-in (usable_rows told root) graph.rows (λ row. sym (graph-times told root graph is row))

  pub costs-are : (distances : List (ℕ × ℕ)) → AreDistances graph.rows (node_number root) distances → cost_at distances ≡ cost_of (usable_rows told root) (node_number root)
  costs-are distances are =
      let same = least_same (usable_rows told root) (node_number root) (cost_at distances) (cost_of (usable_rows told root) (node_number root)) (least-to graph.rows (usable_rows told root) (node_number root) (cost_at distances) into out are.least) (costs-least (usable_rows told root) (node_number root)) in
      λ i node. same node i

  pub reached-are : (distances : List (ℕ × ℕ)) → AreDistances graph.rows (node_number root) distances → flat_map (reached_by (cost_at distances) (node_number root)) told ≡ reached_in told root
  unfolding reached_in
  reached-are distances are = ap (λ (costs : ℕ → Option ℕ). flat_map (reached_by costs (node_number root)) told) (costs-are distances are)

  pub hops-are : (target hop : ℕ) → IsNextHop graph.rows (node_number graph.root) target hop ↔ IsNextHop (graph_in told root).rows (node_number (graph_in told root).root) target hop
  unfolding graph_in
  hops-are target hop =
      subst (λ (n : NodeId). IsNextHop graph.rows (node_number n) target hop ↔ IsNextHop (usable_rows told root) (node_number root) target hop) (sym is.from)
      (hop-to graph.rows (usable_rows told root) (node_number root) into out target hop, hop-to (usable_rows told root) graph.rows (node_number root) out into target hop)

-- two lists that have one graph have the same costs
pub costs-same : (told later : Told) (root : NodeId) (graph : GraphOf) → IsGraphOf told root graph → IsGraphOf later root graph → cost_of (usable_rows told root) (node_number root) ≡ cost_of (usable_rows later root) (node_number root)
costs-same told later root graph is then-is =
    let times-same = λ (row : Row). sym (graph-times told root graph is row) ∙ graph-times later root graph then-is row in
    let into-later = alike-in (usable_rows told root) (usable_rows later root) times-same in
    let out-of = alike-in (usable_rows later root) (usable_rows told root) (λ row. sym (times-same row)) in
    let same = least_same (usable_rows later root) (node_number root) (cost_of (usable_rows told root) (node_number root)) (cost_of (usable_rows later root) (node_number root)) (least-to (usable_rows told root) (usable_rows later root) (node_number root) (cost_of (usable_rows told root) (node_number root)) into-later out-of (costs-least (usable_rows told root) (node_number root))) (costs-least (usable_rows later root) (node_number root)) in
    λ i node. same node i

-- ---- hops by graphs are those by the levels' graphs

module _ (ones twos : Told) (root : NodeId) (one two : GraphOf) (is-one : IsGraphOf ones root one) (is-two : IsGraphOf twos root two) where
  pub hop-by : (rank : Rank) (origin hop : ℕ) → IsHopBy one two rank origin hop ↔ IsHopBy (graph_in ones root) (graph_in twos root) rank origin hop
  hop-by Own origin hop = ((λ h. h), (λ h. h))
  hop-by One origin hop = hops-are ones root one is-one origin hop
  hop-by Two origin hop = hops-are twos root two is-two origin hop
  hop-by OneDown origin hop = hops-are ones root one is-one origin hop
  hop-by Default origin hop = hops-are ones root one is-one origin hop

-- ---- as contracts have them

no-reached : (root : NodeId) → reached_in [] root ≡ []
unfolding reached_in
no-reached root = refl

pub level-reached : (runs : Bool) (told : Told) (root from : NodeId) (graph : GraphOf) (distances : List (ℕ × ℕ)) (list : List (SystemId × ℕ)) → runs ≡ true → IsGraphOf (where_run runs told) root graph → from ≡ graph.root → AreDistances graph.rows (node_number root) distances
    → list ≡ flat_map (reached_by (cost_at distances) (node_number from)) told → list ≡ reached_in (where_run runs told) root
level-reached false told root from graph distances list run is at-root are same = absurd (let e : false ≡ true = run in cc)
level-reached true told root from graph distances list run is at-root are same =
    same ∙ ap (λ (n : NodeId). flat_map (reached_by (cost_at distances) (node_number n)) told) (at-root ∙ is.from) ∙ reached-are told root graph is distances are

pub level-none : (runs : Bool) (told : Told) (root : NodeId) (list : List (SystemId × ℕ)) → runs ≡ false → list ≡ [] → list ≡ reached_in (where_run runs told) root
level-none true told root list run none = absurd (let e : true ≡ false = run in cc)
level-none false told root list run none = none ∙ sym (no-reached root)

-- next hops are the same by the levels' graphs of two outlooks for which one pair of graphs is right
pub hop-same : (o p : Outlook) (one two : RepairedOf) → IsLevel o level.One one → IsLevel o level.Two two → IsLevel p level.One one → IsLevel p level.Two two → (c : Candidate) (hop : ℕ) → IsHopTo (graph_in o.told.one o.root) (graph_in o.told.two o.root) c hop ↔ IsHopTo (graph_in p.told.one p.root) (graph_in p.told.two p.root) c hop
hop-same o p one two a b d e c hop =
    let old = hop-by o.told.one o.told.two o.root one.graph two.graph a.graph b.graph c.rank (node_number c.origin) hop in
    let new = hop-by p.told.one p.told.two p.root one.graph two.graph d.graph e.graph c.rank (node_number c.origin) hop in
    ((λ h. new.0 (old.1 h)), (λ h. old.0 (new.1 h)))
