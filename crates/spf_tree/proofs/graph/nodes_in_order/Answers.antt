use Rattle.std.proofs.Common.{List, ℕ, sym, ap, subst}
use Rattle.std.specs.List.{Contains}
use Rattle.spf_tree.specs.declared.row.Row.{Row}
use Rattle.spf_tree.specs.Walks.{end}
use Rattle.spf_tree.specs.Graphs.{GraphOf}
use Rattle.spf_tree.proofs.graph.nodes_in_order.Goals as goal

pub returns-clause-ends : goal.returns-clause-ends
returns-clause-ends c = λ row h.
    subst (λ (ns : List ℕ). Contains ns (end row)) (sym c.nodes.ensures)
    (c.kept.ensures.ends row (subst (λ (rs : List Row). Contains rs row) (sym (ap (λ (g : GraphOf). g.rows) c.graph.view_is)) h))
