use Rattle.std.proofs.Common.{ℕ, List, map, sym, subst}
use Rattle.std.specs.List.{Contains}
use Rattle.std.proofs.lemmas.List.Elements.{Contains-append_right}
use Rattle.spf_tree.specs.Walks.{end}
use Rattle.spf_tree.proofs.LabelLemmas.{ends_in}
use Rattle.spf_tree.proofs.nodes.with_ends.Goals as goal

pub returns-in-Ok-add_ends-clause-ends : goal.returns-in-Ok-add_ends-clause-ends
returns-in-Ok-add_ends-clause-ends c = λ row h.
    c.in_order.ensures.all (end row) (subst (λ (ns : List ℕ). Contains ns (end row)) (sym c.in-Ok-add_ends.ensures)
    (Contains-append_right _ (map end c.args.rows.now) (end row) (ends_in c.args.rows.now row h)))
