use Rattle.std.proofs.Common.{sym}
use Rattle.spf_tree.proofs.PlaceLemmas.{ends_by, edges_by}
use Rattle.spf_tree.proofs.indexed.index.Goals as goal

pub edges_of-requires-clause-ends : goal.edges_of-requires-clause-ends
edges_of-requires-clause-ends c = ends_by c.args.rows.items _ c.args.nodes.items _ (sym c.as_slice-2.ensures.value) (sym c.as_slice.ensures.value) c.requires.kept.ends

pub invariant_of-result : goal.invariant_of-result
invariant_of-result c = record {
  kept = c.requires.kept;
  row_edges = edges_by _ c.args.rows.items _ c.args.nodes.items c.in-Ok.edges.items c.as_slice-2.ensures.value c.as_slice.ensures.value c.in-Ok.ensures;
}
