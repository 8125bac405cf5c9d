use Rattle.std.proofs.Common.{◌≡◌, ◌∙◌, ◌∷◌, [], not, List, ℕ, refl, sym, ap, subst, arith}
use Rattle.std.specs.List.{Contains}
use Rattle.std.specs.Option.{is_some}
use Rattle.std.proofs.lemmas.Result.{IfOk-weaker}
use Rattle.std.proofs.lemmas.List.{length-map}
use Rattle.spf_tree.specs.Exploring.{AreReached}
use Rattle.spf_tree.specs.Places.{node_at, nodes_at}
use Rattle.spf_tree.proofs.SearchLemmas.{none_of}
use Rattle.spf_tree.proofs.ExploreLemmas.{alone, from_named, explored}
use Rattle.spf_tree.proofs.reach.explore.Goals as goal

pub returns-then-is_none : goal.returns-then-is_none
returns-then-is_none c =
    let one = alone c.args.indexed.now.rows c.args.root c.args.labels.now c.args.all c.args.from (sym c.get.ensures ∙ none_of c.get.result (c.is_none.ensures ∙ ap not c.if-is_none.true)) in
    IfOk-weaker c.only.result (λ v. v.items ≡ c.args.from ∷ []) (λ v. AreReached c.args.indexed.now.rows c.args.root c.args.labels.now c.args.all c.args.from v.items)
    (λ v is. subst (λ (ns : List ℕ). AreReached c.args.indexed.now.rows c.args.root c.args.labels.now c.args.all c.args.from ns) (sym is) one) c.only.ensures

pub place_of-first-requires-clause-there : goal.place_of-first-requires-clause-there
place_of-first-requires-clause-there c =
    subst (λ (ns : List ℕ). Contains ns c.args.from) (c.requires.names ∙ sym c.nodes.ensures)
    (from_named c.args.labels.now c.args.labels.now c.args.from (ap is_some (sym c.get.ensures) ∙ c.is_none.ensures ∙ ap not c.if-is_none.false) refl)

pub returns : goal.returns
returns c =
    let rows = c.args.indexed.now.rows in
    let nodes = c.args.indexed.now.nodes in
    let found = c.loop-many.found.items in
    let len = c.len.ensures in
    let past = c.loop-many-test.false in
    let ok = c.loop-many.found.ok in
    let ex = explored rows (node_at nodes c.place_of-start.result) c.args.labels.now c.args.all c.args.from c.loop-many.marks (nodes_at nodes found) c.loop-many.many (omega (arith, len, past, ok, length-map found (node_at nodes))) c.loop-many.invariant.exploring in
    let root : node_at nodes c.place_of-start.result ≡ c.args.root = subst (λ (ns : List ℕ). node_at ns c.place_of-start.result ≡ c.args.root) c.nodes-2.ensures c.place_of-start.ensures.node in
    let reached : AreReached rows c.args.root c.args.labels.now c.args.all c.args.from (nodes_at nodes found) = subst (λ (n : ℕ). AreReached rows n c.args.labels.now c.args.all c.args.from (nodes_at nodes found)) root ex in
    IfOk-weaker c.nodes_of.result (λ v. v.items ≡ nodes_at c.nodes-3.result.now c.as_slice.result.now) (λ v. AreReached rows c.args.root c.args.labels.now c.args.all c.args.from v.items)
    (λ v is. subst (λ (ns : List ℕ). AreReached rows c.args.root c.args.labels.now c.args.all c.args.from ns) (sym (is ∙ ap (λ (ns : List ℕ). nodes_at ns c.as_slice.result.now) c.nodes-3.ensures ∙ ap (nodes_at nodes) c.as_slice.ensures.value)) reached) c.nodes_of.ensures
