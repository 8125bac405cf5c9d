-- A level's costs once nodes tell something else, one after another.
use Rattle.std.proofs.Common.{◌≡◌, ◌∙◌, ℕ, ◌+◌, ◌-◌, ◌^◌, ◌≤◌, ◌<◌, min, Bool, true, false, List, [], ◌∷◌, Option, Some, None, length, take, drop, refl, sym, ap, subst, arith}
use Rattle.std.specs.Prelude.{slice_index_or}
use Rattle.std.proofs.Math.Seq.{take-length}
use Rattle.isis_base.specs.declared.identifiers.NodeId.{NodeId}
use Rattle.isis_base.specs.declared.identifiers.LspId.{LspId}
use Rattle.lsp_store.specs.declared.entry.Entry.{Entry}
use Rattle.lsp_store.specs.Maps.{RisesFrom}
use Rattle.lsp_view.specs.Views.{rows_in, overloaded_in}
use Rattle.spf_tree.specs.declared.row.Row.{Row}
use Rattle.spf_tree.specs.Nodes.{node_number}
use Rattle.spf_tree.specs.Graphs.{GraphOf, AreUsable, times}
use Rattle.spf_tree.proofs.SearchLemmas.{contains_rest}
use Rattle.spf_repair.specs.Changes.{RepairedOf}
use Rattle.router_routes.specs.declared.told.Moved.{Moved}
use Rattle.router_routes.specs.declared.view.LevelView.{LevelView}
use Rattle.router_routes.specs.Outlooks.{where_run}
use Rattle.router_routes.specs.Told.{told_in}
use Rattle.router_routes.specs.Differences.{ArePartedRows}
use Rattle.router_routes.specs.Moved.{AreChanged, AreCosts, AreNodes, HaveIds, IsOneChange, IsReadable, NodesRise, told_after, told_moved, told_of, told_with}
use Rattle.router_routes.proofs.DifferenceLemmas.{counts-are}
use Rattle.lsp_view.specs.Lsps.{entries_in}
use Rattle.router_routes.proofs.NearGraphLemmas.{no-times-of}

abbrev Pair : Type 0
Pair = LspId × Entry

-- ---- one more node

pub node-costs : (told later : List Pair) (root : NodeId) (now new : RepairedOf) (removed added : List Row) → AreCosts told root now → AreChanged now new removed added
    → ((next : GraphOf) → ((x : Row) → times next.rows x + times removed x ≡ times now.graph.rows x + times added x) → next.root ≡ now.root → AreUsable (rows_in later) (overloaded_in later) now.root next) → AreCosts later root new
node-costs told later root now new removed added are change then =
    let graph = then new.graph change.rows (change.graph_root ∙ are.graph.from ∙ sym are.root) in
    record { root = change.root ∙ are.root; graph = subst (λ (n : NodeId). AreUsable (rows_in later) (overloaded_in later) n new.graph) are.root graph }

pub unchanged : (r : RepairedOf) (removed added : List Row) → length removed ≡ 0 → length added ≡ 0 → AreChanged r r removed added
unchanged r removed added none nothing = record { rows = λ x. ap (λ (k : ℕ). times r.graph.rows x + k) (no-times-of x removed none ∙ sym (no-times-of x added nothing)); graph_root = refl; root = refl }

-- a change by lists that are these
pub listed-changed : (old new : RepairedOf) (r a removed added : List Row) → r ≡ removed → a ≡ added → AreChanged old new r a → AreChanged old new removed added
listed-changed old new r a removed added e f is = subst (λ (l : List Row). AreChanged old new l added) e (subst (λ (l : List Row). AreChanged old new r l) f is)

-- one change, where rows go or come and none is in both lists
pub moved-by : (old new : RepairedOf) (removed added : List Row) → ArePartedRows removed added → 0 < length removed + length added → AreChanged old new removed added → new.changes ≡ min (old.changes + 1) (2 ^ 64 - 1) → IsOneChange old new
moved-by old new removed added apart some is count = record {
  counts = counts-are old new removed added apart is.rows (λ h. count) (λ none. absurd (omega (arith, some, none)));
  graph_root = is.graph_root;
  root = is.root;
}

-- the same rows and roots, by a change of the old costs in place of one more change
pub again-changed : (old so-far next new : RepairedOf) (removed added : List Row) → so-far.graph.root ≡ old.graph.root → so-far.root ≡ old.root → AreChanged so-far next removed added → ((x : Row) → times new.graph.rows x ≡ times next.graph.rows x) → IsOneChange old new → AreChanged so-far new removed added
again-changed old so-far next new removed added at-root is-root change same by = record {
  rows = λ x. ap (λ (n : ℕ). n + times removed x) (same x) ∙ change.rows x;
  graph_root = by.graph_root ∙ sym at-root;
  root = by.root ∙ sym is-root;
}

-- ---- the first node and the rest

pub weaker-rise : (least more : ℕ) (nodes : List NodeId) → least ≤ more → NodesRise more nodes → NodesRise least nodes
weaker-rise least more [] le rise = tt
weaker-rise least more (node ∷ nodes) le rise = let first = rise.0 in (omega (arith, le, first), rise.1)

rest-take : (nodes : List NodeId) (k : ℕ) → k ≡ length nodes → take k nodes ≡ nodes
rest-take nodes k is = ap (λ (n : ℕ). take n nodes) is ∙ take-length nodes

-- a list is its first and the rest
pub first-rest : (nodes : List NodeId) (d : NodeId) → 1 ≤ length nodes → nodes ≡ slice_index_or nodes 0 d ∷ take (length nodes - 1) (drop 1 nodes)
first-rest [] d some = absurd (omega (arith, some))
first-rest (node ∷ nodes) d some = ap (λ (l : List NodeId). node ∷ l) (sym (rest-take nodes (length (node ∷ nodes) - 1) (omega arith)))

pub rest-fit : (entries : List Pair) (moved rest : Moved) (first : NodeId) → IsReadable entries moved → moved.nodes.now ≡ first ∷ rest.nodes.now → rest.aside ≡ moved.aside → IsReadable entries rest
rest-fit entries moved rest first fit is same =
    record {
      ids = fit.ids;
      rises = fit.rises;
      aside = record {
        ids = subst (λ a. HaveIds (entries_in a)) (sym same) fit.aside.ids;
        rises = subst (λ a. RisesFrom 0 (entries_in a)) (sym same) fit.aside.rises;
        nodes = λ m there. subst AreNodes is fit.aside.nodes m (contains_rest first m rest.nodes.now there);
      };
      each = weaker-rise 0 (node_number first + 1) rest.nodes.now (omega arith) (subst (NodesRise 0) is fit.each).1;
    }

-- ---- a level, as its nodes are told one after another

pub no-nodes : (nodes : List NodeId) (old here : List Pair) (root : NodeId) (r : RepairedOf) → length nodes ≡ 0 → AreCosts old root r → AreCosts (told_after nodes old here) root r
no-nodes [] old here root r none are = are
no-nodes (node ∷ nodes) old here root r none are = absurd (omega (arith, none))

-- all of them, by the first and the rest
pub all-nodes : (nodes : List NodeId) (d : NodeId) (old here : List Pair) (root : NodeId) (r : RepairedOf) → 1 ≤ length nodes → AreCosts (told_with (slice_index_or nodes 0 d) (told_after (take (length nodes - 1) (drop 1 nodes)) old here) here) root r → AreCosts (told_after nodes old here) root r
all-nodes nodes d old here root r some are = subst (λ (ns : List NodeId). AreCosts (told_after ns old here) root r) (sym (first-rest nodes d some)) are

-- where nothing is read elsewhere, or the level isn't run, costs stay
pub stays-alone : (runs : Bool) (level : LevelView) (root : NodeId) (r : RepairedOf) → level.moved ≡ None → AreCosts (where_run runs (told_in level.store.now.entries)) root r → AreCosts (where_run runs (told_of level)) root r
stays-alone runs level root r none are = subst (λ (l : List Pair). AreCosts (where_run runs l) root r) (sym (ap (told_moved (told_in level.store.now.entries)) none)) are

pub stays-idle : (runs : Bool) (old later : List Pair) (root : NodeId) (r : RepairedOf) → runs ≡ false → AreCosts (where_run runs old) root r → AreCosts (where_run runs later) root r
stays-idle true old later root r idle are = absurd (let e : true ≡ false = idle in cc)
stays-idle false old later root r idle are = are

pub run-before : (runs : Bool) (old : List Pair) (root : NodeId) (r : RepairedOf) → runs ≡ true → AreCosts (where_run runs old) root r → AreCosts old root r
run-before true old root r run are = are
run-before false old root r run are = absurd (let e : false ≡ true = run in cc)

pub run-after : (runs : Bool) (level : LevelView) (moved : Moved) (root : NodeId) (r : RepairedOf) → runs ≡ true → level.moved ≡ Some moved → AreCosts (told_after moved.nodes.now (told_in level.store.now.entries) (told_in (entries_in moved.aside))) root r → AreCosts (where_run runs (told_of level)) root r
run-after true level moved root r run is are = subst (λ (o : Option Moved). AreCosts (told_moved (told_in level.store.now.entries) o) root r) (sym is) are
run-after false level moved root r run is are = absurd (let e : false ≡ true = run in cc)

-- the rest of the nodes are read elsewhere as all are
pub rest-fits : (entries : List Pair) (moved rest : Moved) → 1 ≤ length moved.nodes.now → rest.nodes.now ≡ take (length moved.nodes.now - 1) (drop 1 moved.nodes.now) → rest.aside ≡ moved.aside → IsReadable entries moved → IsReadable entries rest
rest-fits entries moved rest some is same fit = by-first moved.nodes.now refl
  where
    by-first : (ns : List NodeId) → moved.nodes.now ≡ ns → IsReadable entries rest
    by-first [] e = absurd (let n : length moved.nodes.now ≡ 0 = ap length e in omega (arith, some, n))
    by-first (x ∷ xs) e =
        let its : rest.nodes.now ≡ xs = is ∙ ap (λ (l : List NodeId). take (length l - 1) (drop 1 l)) e ∙ rest-take xs (length (x ∷ xs) - 1) (omega arith) in
        rest-fit entries moved rest x fit (e ∙ ap (λ (l : List NodeId). x ∷ l) (sym its)) same

pub rest-less : (nodes : List NodeId) → 1 ≤ length nodes → length (take (length nodes - 1) (drop 1 nodes)) < length nodes
rest-less [] some = absurd (omega (arith, some))
rest-less (x ∷ xs) some = let e = ap length (rest-take xs (length (x ∷ xs) - 1) (omega arith)) in omega (arith, e)
