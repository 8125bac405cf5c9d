use Rattle.std.proofs.Common.{List, ℕ, ap, sym, subst, inl, inr}
use Rattle.std.specs.List.{Contains}
use Rattle.spf_tree.specs.declared.row.Row.{Row}
use Rattle.spf_tree.specs.Walks.{end}
use Rattle.spf_tree.specs.Graphs.{GraphOf}
use Rattle.spf_tree.proofs.graph.with_rows.Goals as goal

pub with_rows-requires-clause-ends : goal.with_rows-requires-clause-ends
with_rows-requires-clause-ends c = λ row h.
    let o = c.requires.ends row h in
    let rows = ap (λ (g : GraphOf). g.rows) c.graph.view_is in
    let there : Contains c.graph.inside.indexed.nodes (end o.0) =
    elim o.1 [
      | inl was ↦ c.kept.ensures.ends o.0 (subst (λ (rs : List Row). Contains rs o.0) (sym rows) was)
      | inr new ↦ subst (λ (ns : List ℕ). Contains ns (end o.0)) c.nodes.ensures (c.if-have_ends.ensures o.0 new)
    ] in
    subst (λ (n : ℕ). Contains c.graph.inside.indexed.nodes n) o.2 there

pub with_ends-requires-clause-ends : goal.with_ends-requires-clause-ends
with_ends-requires-clause-ends c = λ row h.
    let o = c.requires.ends row h in
    let rows = ap (λ (g : GraphOf). g.rows) c.graph.view_is in
    elim o.1 [
      | inl was ↦ inl (subst (λ (n : ℕ). Contains c.graph.inside.indexed.nodes n) o.2 (c.kept.ensures.ends o.0 (subst (λ (rs : List Row). Contains rs o.0) (sym rows) was)))
      | inr new ↦ inr (o.0, new, o.2)
    ]
