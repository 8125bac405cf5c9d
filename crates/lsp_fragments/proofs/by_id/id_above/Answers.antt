use Rattle.std.proofs.Common.{◌≡◌, ◌∙◌, ◌+◌, ℕ, suc, drop, subst, arith}
use Rattle.isis_base.specs.Identifiers.{lsp_number}
use Rattle.lsp_fragments.specs.Kept.{kept_id, by_id, issued_from}
use Rattle.lsp_fragments.proofs.FromLemmas.{above-place, above-gap}
use Rattle.lsp_fragments.proofs.ShownLemmas.{first-behind}
use Rattle.lsp_fragments.proofs.by_id.id_above.Goals as goal

pub returns-in-Ok : goal.returns-in-Ok
returns-in-Ok c =
    let n = lsp_number c.args.id in
    let xs = c.args.list.now in
    let at : suc c.in-Ok.at ≡ c.in-Ok.at + 1 = omega arith in
    c.id_at.ensures ∙ first-behind xs (n + 1) (c.in-Ok.at + 1) (subst (λ (k : ℕ). issued_from (n + 1) (by_id xs) ≡ by_id (drop k xs)) at (above-place kept_id xs n c.in-Ok.at c.in-Ok.ensures))

pub returns-in-Err : goal.returns-in-Err
returns-in-Err c =
    c.id_at-in-Err.ensures ∙ first-behind c.args.list.now (lsp_number c.args.id + 1) c.in-Err.at (above-gap kept_id c.args.list.now (lsp_number c.args.id) c.in-Err.at c.in-Err.ensures)
