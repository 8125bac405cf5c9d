use Rattle.std.proofs.Common.{◌≤◌, ◌∙◌, ◌∷◌, [], List, get_or, refl, sym, ap, subst}
use Rattle.spf_tree.specs.declared.row.Row.{Row}
use Rattle.spf_tree.specs.Graphs.{GraphOf, times}
use Rattle.spf_tree.proofs.SearchLemmas.{no_row}
use Rattle.spf_repair.proofs.ReplaceLemmas.{one_there}
use Rattle.tests_paths.proofs.repairs.replace_at.Goals as goal

pub change-requires-clause-there : goal.change-requires-clause-there
change-requires-clause-there g c = λ x.
    subst (λ (ps : List Row). times ps x ≤ times c.args.kept.now.graph.rows x) (sym c.as_slice.ensures)
    (subst (λ (rs : List Row). times (get_or c.rows-rows.result.now c.args.place no_row ∷ []) x ≤ times rs x) (c.rows-rows.ensures ∙ ap (λ (h : GraphOf). h.rows) c.graph.ensures)
    (one_there c.rows-rows.result.now c.args.place (get_or c.rows-rows.result.now c.args.place no_row) x no_row c.if-place-rows.false refl))
