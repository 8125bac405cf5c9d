use Rattle.std.proofs.Common.{◌≡◌, ℕ, List, subst, sym}
use Rattle.std.proofs.lemmas.Result.{IfOk-weaker}
use Rattle.std.specs.List.{Contains}
use Rattle.spf_tree.specs.declared.row.Row.{Row}
use Rattle.spf_tree.specs.Walks.{end}
use Rattle.spf_tree.proofs.LabelLemmas.{ends_among, root_among}
use Rattle.spf_tree.proofs.indexed.IndexedRows.new.Goals as goal

pub index-requires-clause-kept : goal.index-requires-clause-kept
index-requires-clause-kept c = record {
  sorted = c.requires.sorted;
  bounded = c.requires.bounded;
  rising = c.in_order-nodes.ensures.rising;
  ends = λ row h. c.in_order-nodes.ensures.all (end row) (ends_among c.as_slice.result.now c.in-Ok.nodes.items c.args.root row c.in-Ok.ensures (subst (λ (rs : List Row). Contains rs row) (sym c.as_slice.ensures.value) h));
}

pub returns-clause-root : goal.returns-clause-root
returns-clause-root c =
    let root : Contains c.in_order-nodes.result.items c.args.root = c.in_order-nodes.ensures.all c.args.root (root_among c.as_slice.result.now c.in-Ok.nodes.items c.args.root c.in-Ok.ensures) in
    IfOk-weaker c.index.result (λ i. i.nodes ≡ c.in_order-nodes.result.items) (λ i. Contains i.nodes c.args.root)
    (λ i is. subst (λ (ns : List ℕ). Contains ns c.args.root) (sym is) root) c.index.ensures.nodes
