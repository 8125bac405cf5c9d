use Rattle.std.proofs.Common.{◌≡◌, ◌∙◌, ℕ, List, map, sym, ap, subst, if◌then◌else◌}
use Rattle.std.proofs.lemmas.Result.{IfOk-weaker}
use Rattle.spf_tree.specs.declared.row.Row.{Row}
use Rattle.std.specs.List.Sorted.{IsPermutation}
use Rattle.spf_tree.specs.Walks.{start, end}
use Rattle.spf_tree.specs.Pairs.{row_passes, ends_of, node_pair}
use Rattle.spf_tree.specs.Graphs.{is_usable, times, AreUsable}
use Rattle.spf_tree.proofs.UsableLemmas.{usable_times, kept_bounded}
use Rattle.spf_tree.proofs.choice.usable.Goals as goal

pub graph_of-requires-clause-bounded : goal.graph_of-requires-clause-bounded
graph_of-requires-clause-bounded c =
    kept_bounded (row_passes c.as_slice.result.now c.as_slice-2.result.now c.number-start.result) c.args.rows.now c.in-Ok-kept.kept.items c.by_start.result.items c.requires c.in-Ok-kept.ensures.rows c.in-Ok-kept.ensures.small c.by_start.ensures.moved

pub returns-in-Ok-kept : goal.returns-in-Ok-kept
returns-in-Ok-kept c =
    let pairs : IsPermutation (map ends_of c.args.rows.now) c.as_slice.result.now =
    subst (λ (ps : List (ℕ × ℕ)). IsPermutation ps c.as_slice.result.now) c.in-Ok.ensures
    (subst (λ (ps : List (ℕ × ℕ)). IsPermutation c.in-Ok.pairs.items ps) (sym c.as_slice.ensures.value) c.sorted-pairs.ensures.moved) in
    let over : IsPermutation (map node_pair c.args.overloaded.now) c.as_slice-2.result.now =
    subst (λ (ps : List (ℕ × ℕ)). IsPermutation ps c.as_slice-2.result.now) c.in-Ok-nodes_of.ensures
    (subst (λ (ps : List (ℕ × ℕ)). IsPermutation c.in-Ok-nodes_of.nodes.items ps) (sym c.as_slice-2.ensures.value) c.sorted-over.ensures.moved) in
    IfOk-weaker c.graph_of.result (λ g. (g.rows ≡ c.by_start.result.items) × (g.root ≡ c.args.root)) (λ g. AreUsable c.args.rows.now c.args.overloaded.now c.args.root g)
    (λ g is. record {
      from = is.1;
      rows_are = λ row.
          ap (λ (rs : List Row). times rs row) is.0 ∙
          subst (λ (n : ℕ). times c.by_start.result.items row ≡ (if is_usable c.args.rows.now c.args.overloaded.now n (start row) (end row) row.metric then times c.args.rows.now row else 0)) c.number-start.ensures
          (usable_times c.args.rows.now c.args.overloaded.now c.as_slice.result.now c.as_slice-2.result.now c.number-start.result c.in-Ok-kept.kept.items c.by_start.result.items pairs over c.in-Ok-kept.ensures.rows c.by_start.ensures.moved row);
    }) c.graph_of.ensures
