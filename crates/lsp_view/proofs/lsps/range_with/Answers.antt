use Rattle.std.proofs.Common.{◌∙◌, ◌≤◌, ◌++◌, ℕ, ap, subst}
use Rattle.std.proofs.lemmas.List.{append_assoc}
use Rattle.isis_base.specs.Identifiers.{lsp_number}
use Rattle.lsp_store.specs.Maps.{between}
use Rattle.lsp_view.specs.Lsps.{AreClipped, above_of, below_of, left_in, one_in}
use Rattle.lsp_view.proofs.LspsLemmas.{range-with}
use Rattle.lsp_view.proofs.lsps.range_with.Goals as goal

-- src/lsps.rt
pub returns : goal.returns
returns c =
    let entries = c.args.store.now.entries in
    let s = c.clipped-start.result.0 in
    let e = c.clipped-start.result.1 in
    let number = c.to_number-number.ensures in
    let same = c.ends-first.ensures.same in
    let below = c.below.ensures ∙ ap (λ (n : ℕ). between s e (below_of n entries)) number in
    let above = c.above.ensures ∙ ap (λ (n : ℕ). between s e (above_of n entries)) number in
    append_assoc (left_in c.below.result) (one_in c.one_between.result) (left_in c.above.result)
    ∙ (λ i. below i ++ (c.one_between.ensures i ++ above i))
    ∙ range-with entries c.args.id c.args.entry.now c.args.start c.args.end s e c.len-entries.ensures.rises
    (subst (λ (p : ℕ × ℕ). AreClipped c.args.start c.args.end p.0 p.1 s e) same c.clipped-start.ensures)
    (subst (λ (p : ℕ × ℕ). (p.0 ≤ lsp_number c.args.id) × (lsp_number c.args.id ≤ p.1)) same c.ends-first.ensures.within)
